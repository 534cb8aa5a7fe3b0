-- What is read of the bytes: the record that is written, with the chosen scfsi in active slots and nothing in idle ones.
use mathlib.Core.Path.{◌≡◌, refl, sym, ap, ◌∙◌, subst}
use mathlib.Core.Bool.{Bool, true, false, cond}
use mathlib.Core.List.{List}
use Prim.Native.Nat.{ℕ, ◌+◌, ◌*◌, ◌/◌, ◌<◌}
use native.Mathlib.Omega.{arith}
use lib.ListN.{get_or, take}
use Rattle.tables.specs.Search.{one_of}
use Rattle.tables.specs.Listed.{tabulate}
use Rattle.tables.proofs.Listed.{tabulated, length_tabulate, or_behind}
use Rattle.header.specs.declared.FrameHeader.{FrameHeader}
use Rattle.layout.specs.declared.Layout.{Layout}
use Rattle.audio_data.specs.declared.Scfsi.{Scfsi}
use Rattle.audio_data.specs.declared.Scfsi.TheVariants.{ThreePerGranule}
use Rattle.audio_data.specs.Scfsi.{three, Agrees}
use Rattle.bit_string.specs.Bits.{unpacked}
use Rattle.side_info.specs.declared.SideInfo.{SideInfo}
use Rattle.side_info.specs.SideInfo.{side_info, idle_scfsi, scfsi_in, scalefactors_in, header_layout, active_slots}
use Rattle.record_check.specs.Together.{StepsCarried, HangsTogether}
use Rattle.side_info_writer.specs.Written.{WrittenAnswer, written_of}
use Rattle.side_info_reading.specs.Read.{read, read_of, Restorable}
use Rattle.side_info_reading.proofs.SlotLaws.{active_slot}
use Rattle.side_info_reading.proofs.ReadLaws as Read
use Rattle.canonical_form.specs.Fewest.{fewest_scfsi, canonical}
use Rattle.canonical_form.specs.Canonical.{SaysTheSame}
use Rattle.canonical_form.proofs.FewestLaws.{fewest_agrees}
use Rattle.canonical_form.proofs.AgreeLaws.{Agree, active_same, scfsi_chosen, written_same}

-- ---- the record

module _ (l : Layout) (s : SideInfo) where
  abbrev is_active : ℕ → Bool
  is_active slot = one_of (active_slots l s.steps) slot

  abbrev steps_at : ℕ → ℕ
  steps_at slot = get_or s.steps slot 0

  abbrev scfsi_at : ℕ → Scfsi
  scfsi_at slot = cond (is_active slot) (fewest_scfsi (scalefactors_in s slot)) idle_scfsi

  abbrev index_at : ℕ → ℕ
  index_at k = cond (is_active (k / 3)) (get_or s.scalefactors k 0) 0

  -- the chosen scfsi and the indices of active slots, and nothing in idle ones
  unfoldable pub bare : SideInfo
  bare = side_info (tabulate 64 steps_at) (tabulate 64 scfsi_at) (tabulate 192 index_at)

  -- ---- its slots

  steps_bare : (slot : ℕ) → slot < 64 → get_or bare.steps slot 0 ≡ get_or s.steps slot 0
  unfolding bare
  steps_bare slot h = tabulated 64 steps_at slot 0 h

  active_bare : active_slots l bare.steps ≡ active_slots l s.steps
  active_bare = active_same l bare.steps s.steps steps_bare

  by_active : (slot : ℕ) (b : Bool) → one_of (active_slots l bare.steps) slot ≡ b → is_active slot ≡ b
  by_active slot b e = ap (λ (k : List ℕ). one_of k slot) (sym active_bare) ∙ e

  -- of an active slot
  module _ (slot : ℕ) (e : is_active slot ≡ true) where
    small : slot < 64
    small = active_slot l s.steps slot e

    scfsi_bare : scfsi_in bare slot ≡ fewest_scfsi (scalefactors_in s slot)
    unfolding bare
    scfsi_bare =
        tabulated 64 scfsi_at slot idle_scfsi small ∙ ap (λ (b : Bool). cond b (fewest_scfsi (scalefactors_in s slot)) idle_scfsi) e

    index_bare : (k : ℕ) → k / 3 ≡ slot → get_or bare.scalefactors k 0 ≡ get_or s.scalefactors k 0
    unfolding bare
    index_bare k q =
        let m = small in
        tabulated 192 index_at k 0 (omega arith) ∙ ap (λ (b : Bool). cond b (get_or s.scalefactors k 0) 0) (ap is_active q ∙ e)

    indices_bare : scalefactors_in bare slot ≡ scalefactors_in s slot
    indices_bare =
        let a = index_bare (3 * slot) (omega arith) in
        let b = index_bare (3 * slot + 1) (omega arith) in
        let c = index_bare (3 * slot + 2) (omega arith) in
        λ i. three (a i) (b i) (c i)

  -- of an idle one
  module _ (slot : ℕ) (e : is_active slot ≡ false) where
    scfsi_idle : scfsi_in bare slot ≡ ThreePerGranule
    unfolding bare
    scfsi_idle =
        or_behind 64 scfsi_at slot idle_scfsi (λ h. ap (λ (b : Bool). cond b (fewest_scfsi (scalefactors_in s slot)) idle_scfsi) e)

    index_idle : (k : ℕ) → k / 3 ≡ slot → get_or bare.scalefactors k 0 ≡ 0
    unfolding bare
    index_idle k q = or_behind 192 index_at k 0 (λ h. ap (λ (b : Bool). cond b (get_or s.scalefactors k 0) 0) (ap is_active q ∙ e))

    indices_idle : scalefactors_in bare slot ≡ three 0 0 0
    indices_idle =
        let a = index_idle (3 * slot) (omega arith) in
        let b = index_idle (3 * slot + 1) (omega arith) in
        let c = index_idle (3 * slot + 2) (omega arith) in
        λ i. three (a i) (b i) (c i)

  -- ---- what it says, and how it is written

  pub says_bare : SaysTheSame l s bare
  says_bare = record { steps = λ slot h. sym (steps_bare slot h); indices = λ slot e. sym (indices_bare slot e) }

  pub agree_bare : Agree l (canonical s) bare
  agree_bare = record {
    steps = λ slot h. sym (steps_bare slot h);
    scfsi = λ slot e. scfsi_chosen s slot (small slot e) ∙ sym (scfsi_bare slot e);
    indices = λ slot e. sym (indices_bare slot e);
  }

  -- it can be restored
  carried : HangsTogether l s → (slot : ℕ) → StepsCarried l bare slot
  unfolding bare
  carried whole slot none = or_behind 64 steps_at slot 0 (λ h. (whole slot h).carried none)

  restorable : HangsTogether l s → Restorable l bare
  unfolding bare
  restorable whole = record {
    steps_long = length_tabulate 64 steps_at;
    scfsi_long = length_tabulate 64 scfsi_at;
    scalefactors_long = length_tabulate 192 index_at;
    agrees = λ slot e.
        let a = by_active slot true e in
        subst (λ (c : Scfsi). Agrees c (scalefactors_in bare slot)) (sym (scfsi_bare slot a))
        (subst (Agrees (fewest_scfsi (scalefactors_in s slot))) (sym (indices_bare slot a)) (fewest_agrees (scalefactors_in s slot)));
    idle = λ slot e. let a = by_active slot false e in (scfsi_idle slot a, indices_idle slot a);
    outside = carried whole;
  }

-- ---- read back

pub read_bare : (h : FrameHeader) (s : SideInfo) (w : WrittenAnswer) → HangsTogether (header_layout h) s → w ≡ written_of h (canonical s) → w.number ≡ 0
    → read_of h w.bytes ≡ read 0 (bare (header_layout h) s) w.bits_used
read_bare h s w whole e z =
    let p = bare (header_layout h) s in
    let made : w ≡ written_of h p = e ∙ written_same h (canonical s) p (agree_bare (header_layout h) s) in
    let back = (Read.promises h w.bytes (read_of h w.bytes) refl).back in
    back p (sym (ap (λ (v : WrittenAnswer). v.number) made) ∙ z) (restorable (header_layout h) s whole)
    (ap (λ (v : WrittenAnswer). take (written_of h p).bits_used (unpacked v.bytes)) made)
    ∙ ap (read 0 p) (sym (ap (λ (v : WrittenAnswer). v.bits_used) made))

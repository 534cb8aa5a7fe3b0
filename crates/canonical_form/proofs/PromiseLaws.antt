-- The whole answer keeps its promises.
use mathlib.Core.Path.{◌≡◌, refl, sym, ap, ◌∙◌, subst}
use mathlib.Core.Bool.{Bool, true, false, cond}
use mathlib.Core.List.{List, []}
use Prim.Native.Nat.{ℕ, ◌+◌, ◌≤◌, zero-le}
use native.Mathlib.Decide.{ℕ_discrete}
use native.Mathlib.Omega.{arith}
use lib.Dec.{eqb}
use lib.ListN.{length}
use Rattle.tables.specs.Search.{one_of}
use Rattle.header.specs.declared.FrameHeader.{FrameHeader}
use Rattle.header.specs.Questions.{number}
use Rattle.encoder_bit_budget.specs.Budget.{allocation_bits}
use Rattle.layout.specs.declared.Layout.{Layout}
use Rattle.layout.specs.Layout.{sum_over}
use Rattle.audio_data.specs.declared.Scfsi.{Scfsi}
use Rattle.audio_data.specs.Scfsi.{parts_of}
use Rattle.audio_data.proofs.ScfsiLaws.{comes_back}
use Rattle.side_info.specs.declared.SideInfo.{SideInfo}
use Rattle.side_info.specs.SideInfo.{scfsi_in, scalefactors_in, header_layout, active_slots, side_info_bits, record_asked, slot_count}
use Rattle.side_info.proofs.CountLaws.{counted}
use Rattle.side_info.proofs.FlatLaws.{sum_least}
use Rattle.side_info.proofs.ListLaws.{each_of}
use Rattle.record_check.specs.Together.{HangsTogether}
use Rattle.record_check.specs.Check.{CheckAnswer, check_of}
use Rattle.record_check.proofs.PromiseLaws as Check
use Rattle.side_info_writer.specs.Written.{WrittenAnswer, where_zero, writer_asked, written_of}
use Rattle.side_info_writer.proofs.WholeLaws as Writer
use Rattle.side_info_reading.specs.Read.{ReadAnswer, read, read_of}
use Rattle.side_info_reading.proofs.SlotLaws.{active_slot}
use Rattle.side_info_reading.proofs.ReadLaws as Read
use Rattle.side_info_reading.proofs.PassLaws.{read_passes}
use Rattle.canonical_form.specs.Fewest.{fewest_scfsi, chosen, canonical}
use Rattle.canonical_form.specs.Canonical.{canonical_of, BothAccept, SaysTheSame, with_scfsi, CanonicalIs}
use Rattle.canonical_form.proofs.FewestLaws.{fewest_least}
use Rattle.canonical_form.proofs.AgreeLaws.{written_same, canonical_agree, says_turned, says_on, scfsi_chosen}
use Rattle.canonical_form.proofs.NumberLaws.{together, is_refused, is_written, same_number}
use Rattle.canonical_form.proofs.BareLaws.{bare, says_bare, read_bare}

-- ---- how many bits

module _ (l : Layout) (s : SideInfo) (whole : HangsTogether l s) where
  -- a slot
  slot_fewer : (slot : ℕ) → one_of (active_slots l s.steps) slot ≡ true → slot_count (canonical s) slot ≤ slot_count s slot
  slot_fewer slot e =
      let small = active_slot l s.steps slot e in
      let t = scalefactors_in s slot in
      let n : parts_of (scfsi_in (canonical s) slot) ≡ parts_of (fewest_scfsi t) = ap parts_of (scfsi_chosen s slot small) in
      let m = fewest_least t (scfsi_in s slot) (comes_back (scfsi_in s slot) t ((whole slot small).agrees e)) in
      omega arith

  -- the whole
  fewer : length (side_info_bits l (canonical s)) ≤ length (side_info_bits l s)
  fewer =
      let active = active_slots l s.steps in
      let a : length (side_info_bits l (canonical s)) ≡ allocation_bits l + sum_over (slot_count (canonical s)) active = counted l (canonical s) in
      let b : length (side_info_bits l s) ≡ allocation_bits l + sum_over (slot_count s) active = counted l s in
      let c = sum_least (slot_count (canonical s)) (slot_count s) active (each_of _ active slot_fewer) in
      omega arith

-- ---- the promises

module _ (h : FrameHeader) (s : SideInfo) where
  abbrev l : Layout
  l = header_layout h

  -- ---- of an accepted record

  -- what is accepted passed the check
  checked_zero : (canonical_of h s).number ≡ 0 → (check_of h s).number ≡ 0
  checked_zero z = go (ℕ_discrete (check_of h s).number 0)
    where
      go : Dec ((check_of h s).number ≡ 0) → (check_of h s).number ≡ 0
      go (yes e) = e
      go (no n) = sym (ap (λ (w : WrittenAnswer). w.number) (is_refused h s n)) ∙ z

  is_read : (canonical_of h s).number ≡ 0 → read_of h (canonical_of h s).bytes ≡ read 0 (bare l s) (canonical_of h s).bits_used
  is_read z = let c = checked_zero z in read_bare h s (canonical_of h s) (together h s c) (is_written h s c) z

  -- what is read is written so again
  is_again : (canonical_of h s).number ≡ 0 → canonical_of h (bare l s) ≡ canonical_of h s
  is_again z =
      let bytes = (canonical_of h s).bytes in
      let r = read_of h bytes in
      let e = is_read z in
      let passed : (check_of h r.info).number ≡ 0 =
      ap (λ (c : CheckAnswer). c.number)
      ((read_passes h bytes r).passes (Read.promises h bytes r refl) (ap (λ (v : ReadAnswer). v.number) e) (check_of h r.info) (Check.promises h r.info (check_of h r.info) refl)) in
      let p : (check_of h (bare l s)).number ≡ 0 = ap (λ (v : ReadAnswer). (check_of h v.info).number) (sym e) ∙ passed in
      is_written h (bare l s) p
      ∙ written_same h (canonical (bare l s)) (canonical s) (canonical_agree l (bare l s) s (says_turned l s (bare l s) (says_bare l s)))
      ∙ sym (is_written h s (checked_zero z))

  -- whichever scfsi the check accepts
  is_shortest : (c : List Scfsi) → (check_of h (with_scfsi c s)).number ≡ 0 → (canonical_of h s).bits_used ≤ (written_of h (with_scfsi c s)).bits_used
  unfolding chosen written_of record_asked
  is_shortest c passed = go (ℕ_discrete (check_of h s).number 0)
    where
      other : SideInfo
      other = with_scfsi c s

      by_number : (n : ℕ) → length (where_zero n (side_info_bits l (canonical s))) ≤ length (where_zero n (side_info_bits l other))
      by_number n = at (eqb n 0)
        where
          at : (b : Bool) → length (cond b (side_info_bits l (canonical s)) []) ≤ length (cond b (side_info_bits l other) [])
          at true = fewer l other (together h other passed)
          at false = zero-le

      go : Dec ((check_of h s).number ≡ 0) → (canonical_of h s).bits_used ≤ (written_of h other).bits_used
      go (no n) = rw (is_refused h s n) zero-le
      go (yes z) = rw (is_written h s z) (by_number (number (writer_asked h s)))

module _ (h : FrameHeader) where
  -- one answer where two records say the same
  one_answer : (s t : SideInfo) → (check_of h s).number ≡ 0 → (check_of h t).number ≡ 0 → SaysTheSame (header_layout h) s t → canonical_of h s ≡ canonical_of h t
  one_answer s t z y e =
      is_written h s z ∙ written_same h (canonical s) (canonical t) (canonical_agree (header_layout h) s t e) ∙ sym (is_written h t y)

  -- accepted by both, accepted here
  both_accepted : (s : SideInfo) → BothAccept h s → (canonical_of h s).number ≡ 0
  both_accepted s a = same_number h s a.1 ∙ a.0

  -- equal bytes read alike
  one_record : (s t : SideInfo) → BothAccept h s → BothAccept h t → (canonical_of h s).bytes ≡ (canonical_of h t).bytes → SaysTheSame (header_layout h) s t
  one_record s t a b e =
      let l = header_layout h in
      let same : bare l s ≡ bare l t =
      ap (λ (v : ReadAnswer). v.info) (sym (is_read h s (both_accepted s a)) ∙ ap (read_of h) e ∙ is_read h t (both_accepted t b)) in
      says_on l s (bare l s) t (says_bare l s)
      (subst (λ (p : SideInfo). SaysTheSame l p t) (sym same) (says_turned l t (bare l t) (says_bare l t)))

  pub promises : (s : SideInfo) (w : WrittenAnswer) → w ≡ canonical_of h s → CanonicalIs h s w
  promises s w e = subst (CanonicalIs h s) (sym e) (record {
    whole = refl;
    refused = is_refused h s;
    accepted = same_number h s;
    chosen = λ z. Writer.promises h (canonical s) (canonical_of h s) (is_written h s z);
    same_answer = λ z t y says. one_answer s t z y says;
    same_bytes = λ a t b bytes. one_record s t a b bytes;
    reads = λ z. ap (λ (v : ReadAnswer). v.number) (is_read h s z);
    used = λ z. ap (λ (v : ReadAnswer). v.bits_used) (is_read h s z);
    back = λ z. subst (λ (v : ReadAnswer). SaysTheSame (header_layout h) s v.info) (sym (is_read h s z)) (says_bare (header_layout h) s);
    again = λ z. ap (λ (v : ReadAnswer). canonical_of h v.info) (is_read h s z) ∙ is_again h s z;
    shortest = is_shortest h s;
  })

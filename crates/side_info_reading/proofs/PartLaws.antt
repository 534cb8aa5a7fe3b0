-- An allocation field, a scfsi and the scalefactors of a slot: what was sent is taken, and what was taken was sent.
use Rattle.std.proofs.lemmas.Option.{same_Some}
use Rattle.std.specs.Prelude.{Option, None, Some, is_some}
use mathlib.Core.Path.{◌≡◌, refl, sym, ap, ap₂, ◌∙◌, subst}
use mathlib.Core.Bool.{Bool, true, false, cond, ◌&&◌, true≢false}
use mathlib.Core.List.{List, [], ◌∷◌, ◌++◌, append_assoc, map, flat_map}
use Prim.Native.Nat.{ℕ, zero, suc, ◌^◌, ◌≤◌, ◌<◌}
use native.Mathlib.Omega.{arith}
use lib.Dec.{eqb, leb, lit<}
use lib.ListN.{length, get_or}
use borrow.Author.Tests.{eqb-true, eqb-false, eq-eqb, ne_eqb, leb-true, le-leb}
use Rattle.tables.proofs.Rule.{both_true}
use Rattle.tables.proofs.Search.{there}
use Rattle.bitalloc.specs.Options.{or_zero}
use Rattle.bitalloc.specs.Tables.{nbal_of, row_of, steps_at, index_of}
use Rattle.bitalloc.proofs.RowLaws.{row_rule, index_small, index_of_steps, steps_of_index}
use Rattle.layout.specs.declared.Layout.{Layout}
use Rattle.layout.specs.declared.AllocationField.{AllocationField}
use Rattle.layout.specs.Slots.{slot_of}
use Rattle.layout.specs.Layout.{field_steps}
use Rattle.audio_data.specs.declared.Scfsi.{Scfsi}
use Rattle.audio_data.specs.declared.Scfsi.TheVariants.{ThreePerGranule, Share01Then2, ShareAll, Share0Then12}
use Rattle.audio_data.specs.Scfsi.{code_of, of_code, parts_of, Three, three, sent, restored, Agrees}
use Rattle.audio_data.proofs.ScfsiLaws.{comes_back, sent_count, of_code_lem}
use Rattle.bit_string.specs.Bits.{bits_of}
use Rattle.side_info.specs.SideInfo.{same_steps, tabled}
use Rattle.side_info_reading.specs.Taken.{Taken, got, refused, and_then, number_taken}
use Rattle.side_info_reading.specs.Reading.{field_taken, scfsi_taken, index_taken, indices_taken, three_taken, in_slots}
use Rattle.side_info.proofs.ListLaws.{Each}
use Rattle.side_info_reading.proofs.LaidLaws.{places_of, Held}
use Rattle.side_info_reading.proofs.TakenLaws.{same_value, same_rest, not_got, then_got, between, number_sent, number_taken_lem}
use Rattle.side_info_reading.proofs.SlotLaws.{Field, slots_for}

-- ---- an allocation field

-- the bits of a field's steps
abbrev pub field_wire : Layout → AllocationField → ℕ → List Bool
field_wire l x n = bits_of (nbal_of l.table x.subband) (or_zero (index_of l.table x.subband n))

abbrev pub InRow : Layout → AllocationField → ℕ → Type 0
InRow l x n = is_some (index_of l.table x.subband n) ≡ true

module _ (l : Layout) (x : AllocationField) (f : Field l x) where
  abbrev width : ℕ
  width = nbal_of l.table x.subband

  abbrev row : List ℕ
  row = row_of l.table x.subband

  inside : (p : ℕ) → p < 2 ^ width → p < length row
  inside p h = rw (row_rule l.table x.subband f.carried).places h

  at_place : (p n : ℕ) → p < 2 ^ width → get_or row p 0 ≡ n → index_of l.table x.subband n ≡ Some p
  unfolding steps_at
  at_place p n h v = index_of_steps l.table x.subband p n (there row p 0 (inside p h) ∙ ap Some v)

  steps_there : (p n : ℕ) → p < 2 ^ width → index_of l.table x.subband n ≡ Some p → get_or row p 0 ≡ n
  unfolding steps_at
  steps_there p n h e = same_Some _ _ (sym (there row p 0 (inside p h)) ∙ steps_of_index l.table x.subband p n e)

  pub field_sent_lem : (n : ℕ) (rest : List Bool) → InRow l x n → field_taken l x (field_wire l x n ++ rest) ≡ got n rest
  field_sent_lem n rest i = go (index_of l.table x.subband n) refl i
    where
      go : (o : Option ℕ) → index_of l.table x.subband n ≡ o → is_some o ≡ true → field_taken l x (bits_of width (or_zero o) ++ rest) ≡ got n rest
      go None e i = absurd (true≢false (sym i))
      go (Some p) e i =
          let small = index_small l.table x.subband n p f.carried e in
          then_got (λ place. got (get_or row place 0)) (number_taken width (bits_of width p ++ rest)) p rest (number_sent width p rest small)
          ∙ ap (λ (m : ℕ). got m rest) (steps_there p n small e)

  pub field_took : (bits : List Bool) (n : ℕ) (rest : List Bool) → field_taken l x bits ≡ got n rest → (bits ≡ field_wire l x n ++ rest) × InRow l x n
  field_took bits n rest e =
      let b = between (λ place. got (get_or row place 0)) (number_taken width bits) n rest e in
      let t = number_taken_lem width bits b.value b.rest b.first in
      let i = at_place b.value n t.small (same_value b.second) in
      (t.front ∙ ap₂ (λ (o : Option ℕ) (bs : List Bool). bits_of width (or_zero o) ++ bs) (sym i) (same_rest b.second), ap is_some i)

  pub field_value : (cells : List ℕ) (n : ℕ) → Held 0 cells (in_slots x n) → field_steps cells x ≡ n
  field_value cells n h = go x.both x.channel f.channel h
    where
      go : (b : Bool) (ch : ℕ) → ch < 2 → Held 0 cells (map (λ c. (slot_of c x.subband, n)) (cond b (0 ∷ 1 ∷ []) (ch ∷ [])))
          → get_or cells (slot_of ch x.subband) 0 ≡ n
      go false ch s h = h.0.1
      go true zero s h = h.0.1
      go true (suc zero) s h = h.1.0.1
      go true (suc (suc ch)) s h = absurd (omega arith)

pub steps_placed : (x : AllocationField) (n : ℕ) → places_of (in_slots x n) ≡ slots_for x
steps_placed x n = go x.both
  where
    go : (b : Bool) → places_of (map (λ ch. (slot_of ch x.subband, n)) (cond b (0 ∷ 1 ∷ []) (x.channel ∷ [])))
        ≡ map (λ ch. slot_of ch x.subband) (cond b (0 ∷ 1 ∷ []) (x.channel ∷ []))
    go true = refl
    go false = refl

-- the channels of a field have the same steps
module _ (steps : List ℕ) (x : AllocationField) where
  pub same_held : (chs : List ℕ) → Each (λ k. k < length steps) (map (λ ch. slot_of ch x.subband) chs) → same_steps steps x chs ≡ true
      → Held 0 steps (map (λ ch. (slot_of ch x.subband, field_steps steps x)) chs)
  same_held [] b e = tt
  same_held (ch ∷ chs) b e =
      let t = both_true (eqb (get_or steps (slot_of ch x.subband) 0) (field_steps steps x)) (same_steps steps x chs) e in
      ((b.0, eqb-true (get_or steps (slot_of ch x.subband) 0) (field_steps steps x) t.0), same_held chs b.1 t.1)

  pub held_same : (chs : List ℕ) → Held 0 steps (map (λ ch. (slot_of ch x.subband, field_steps steps x)) chs) → same_steps steps x chs ≡ true
  held_same [] h = refl
  held_same (ch ∷ chs) h = ap₂ ◌&&◌ (eq-eqb (get_or steps (slot_of ch x.subband) 0) (field_steps steps x) h.0.1) (held_same chs h.1)

-- ---- a scfsi

abbrev pub scfsi_wire : Scfsi → List Bool
scfsi_wire s = bits_of 2 (code_of s)

code_small : (s : Scfsi) → code_of s < 2 ^ 2
code_small ThreePerGranule = lit< tt
code_small Share01Then2 = lit< tt
code_small ShareAll = lit< tt
code_small Share0Then12 = lit< tt

code_back : (n : ℕ) → n < 2 ^ 2 → code_of (of_code n) ≡ n
code_back zero h = refl
code_back (suc zero) h = refl
code_back (suc (suc zero)) h = refl
code_back (suc (suc (suc zero))) h = refl
code_back (suc (suc (suc (suc n)))) h = absurd (omega arith)

abbrev as_slot : ℕ → List Bool → Taken Scfsi
as_slot code = got (of_code code)

pub scfsi_sent : (slot : ℕ) (s : Scfsi) (rest : List Bool) → scfsi_taken slot (scfsi_wire s ++ rest) ≡ got s rest
scfsi_sent slot s rest =
    then_got as_slot (number_taken 2 (bits_of 2 (code_of s) ++ rest)) (code_of s) rest (number_sent 2 (code_of s) rest (code_small s))
    ∙ ap (λ (t : Scfsi). got t rest) (of_code_lem s)

pub scfsi_took : (slot : ℕ) (bits : List Bool) (s : Scfsi) (rest : List Bool) → scfsi_taken slot bits ≡ got s rest → bits ≡ scfsi_wire s ++ rest
scfsi_took slot bits s rest e =
    let b = between as_slot (number_taken 2 bits) s rest e in
    let t = number_taken_lem 2 bits b.value b.rest b.first in
    t.front
    ∙ ap₂ (λ (n : ℕ) (bs : List Bool). bits_of 2 n ++ bs)
    (sym (code_back b.value t.small) ∙ ap code_of (same_value b.second)) (same_rest b.second)

-- ---- scalefactors

-- an index that Table 3-B.1 has
index_sent : (i : ℕ) (rest : List Bool) → i ≤ 62 → index_taken (bits_of 6 i ++ rest) ≡ got i rest
index_sent i rest h =
    then_got (λ index rest. cond (eqb index 63) (refused 10) (got index rest)) (number_taken 6 (bits_of 6 i ++ rest)) i rest
    (number_sent 6 i rest (let s : 62 < 2 ^ 6 = lit< tt in omega arith))
    ∙ ap (λ (b : Bool). cond b (refused 10) (got i rest)) (ne_eqb i 63 (λ e. omega arith))

index_took : (bits : List Bool) (i : ℕ) (rest : List Bool) → index_taken bits ≡ got i rest → (bits ≡ bits_of 6 i ++ rest) × (i ≤ 62)
index_took bits i rest e =
    let b = between (λ index rest. cond (eqb index 63) (refused 10) (got index rest)) (number_taken 6 bits) i rest e in
    let t = number_taken_lem 6 bits b.value b.rest b.first in
    go b.value b.rest t.small t.front (eqb b.value 63) refl b.second
  where
    go : (n : ℕ) (more : List Bool) → n < 2 ^ 6 → bits ≡ bits_of 6 n ++ more → (v : Bool) → eqb n 63 ≡ v → cond v (refused 10) (got n more) ≡ got i rest
        → (bits ≡ bits_of 6 i ++ rest) × (i ≤ 62)
    go n more s f true q e = absurd (not_got e)
    go n more s f false q e =
        let d = eqb-false n 63 q in
        let v : n ≡ i = same_value e in
        let s' : n < 64 = s in
        (f ∙ ap₂ (λ (m : ℕ) (bs : List Bool). bits_of 6 m ++ bs) v (same_rest e), omega arith)

-- indices that it has
abbrev AllTabled : List ℕ → Type 0
AllTabled is = Each (λ i. i ≤ 62) is

indices_sent : (is : List ℕ) (rest : List Bool) → AllTabled is → indices_taken (length is) (flat_map (bits_of 6) is ++ rest) ≡ got is rest
unfolding flat_map
indices_sent [] rest h = refl
indices_sent (i ∷ is) rest h =
    let come = flat_map (bits_of 6) is ++ rest in
    ap (indices_taken (suc (length is))) (append_assoc (bits_of 6 i) (flat_map (bits_of 6) is) rest)
    ∙ then_got (λ index rest. and_then (indices_taken (length is) rest) (λ more. got (index ∷ more))) (index_taken (bits_of 6 i ++ come)) i come (index_sent i come h.0)
    ∙ then_got (λ more. got (i ∷ more)) (indices_taken (length is) come) is rest (indices_sent is rest h.1)

pub record IndicesIn (n : ℕ) (bits : List Bool) (is : List ℕ) (rest : List Bool) : Type 0 where
  pub front : bits ≡ flat_map (bits_of 6) is ++ rest
  pub many : length is ≡ n
  pub tabled : AllTabled is

indices_took : (n : ℕ) (bits : List Bool) (is : List ℕ) (rest : List Bool) → indices_taken n bits ≡ got is rest → IndicesIn n bits is rest
unfolding flat_map
indices_took zero bits is rest e =
    subst (λ (js : List ℕ). IndicesIn 0 bits js rest) (same_value e) (record { front = same_rest e; many = refl; tabled = tt })
indices_took (suc n) bits is rest e =
    let a = between (λ index rest. and_then (indices_taken n rest) (λ more. got (index ∷ more))) (index_taken bits) is rest e in
    let b = between (λ more. got (a.value ∷ more)) (indices_taken n a.rest) is rest a.second in
    let t = index_took bits a.value a.rest a.first in
    let u = indices_took n a.rest b.value b.rest b.first in
    subst (λ (js : List ℕ). IndicesIn (suc n) bits js rest) (same_value b.second)
    (record {
      front = t.0 ∙ ap (λ (bs : List Bool). bits_of 6 a.value ++ bs) (u.front ∙ ap (λ (bs : List Bool). flat_map (bits_of 6) b.value ++ bs) (same_rest b.second))
          ∙ sym (append_assoc (bits_of 6 a.value) (flat_map (bits_of 6) b.value) rest);
      many = ap suc u.many;
      tabled = (t.1, u.tabled);
    })

-- the scalefactors of a slot
abbrev pub three_wire : Scfsi → Three → List Bool
three_wire s t = flat_map (bits_of 6) (sent s t)

all_tabled : (t : Three) → tabled t ≡ true → (t.first ≤ 62) × (t.second ≤ 62) × (t.third ≤ 62)
all_tabled t e =
    let p = both_true (leb t.first 62 && leb t.second 62) (leb t.third 62) e in
    let q = both_true (leb t.first 62) (leb t.second 62) p.0 in
    (leb-true t.first 62 q.0, leb-true t.second 62 q.1, leb-true t.third 62 p.1)

sent_tabled : (s : Scfsi) (t : Three) → tabled t ≡ true → AllTabled (sent s t)
sent_tabled ThreePerGranule t e = let a = all_tabled t e in (a.0, (a.1, (a.2, tt)))
sent_tabled Share01Then2 t e = let a = all_tabled t e in (a.0, (a.2, tt))
sent_tabled ShareAll t e = let a = all_tabled t e in (a.0, tt)
sent_tabled Share0Then12 t e = let a = all_tabled t e in (a.0, (a.2, tt))

pub three_sent : (s : Scfsi) (t : Three) (rest : List Bool) → tabled t ≡ true → Agrees s t → three_taken s (three_wire s t ++ rest) ≡ got t rest
three_sent s t rest e a =
    then_got (λ is. got (restored s is)) (indices_taken (parts_of s) (three_wire s t ++ rest)) (sent s t) rest
    (ap (λ (n : ℕ). indices_taken n (three_wire s t ++ rest)) (sym (sent_count s t)) ∙ indices_sent (sent s t) rest (sent_tabled s t e))
    ∙ ap (λ (u : Three). got u rest) (comes_back s t a)

-- three that come from as many indices as the scfsi sends
pub record Restored (s : Scfsi) (is : List ℕ) : Type 0 where
  pub sent_again : sent s (restored s is) ≡ is
  pub tabled_again : tabled (restored s is) ≡ true
  pub agrees : Agrees s (restored s is)

three_tabled : (a b c : ℕ) → a ≤ 62 → b ≤ 62 → c ≤ 62 → tabled (three a b c) ≡ true
three_tabled a b c p q r = ap₂ ◌&&◌ (ap₂ ◌&&◌ (le-leb a 62 p) (le-leb b 62 q)) (le-leb c 62 r)

restored_whole : (s : Scfsi) (is : List ℕ) → length is ≡ parts_of s → AllTabled is → Restored s is
restored_whole ThreePerGranule [] e h = absurd (omega (arith, e))
restored_whole ThreePerGranule (a ∷ []) e h = absurd (omega (arith, e))
restored_whole ThreePerGranule (a ∷ b ∷ []) e h = absurd (omega (arith, e))
restored_whole ThreePerGranule (a ∷ b ∷ c ∷ []) e h = record { sent_again = refl; tabled_again = three_tabled a b c h.0 h.1.0 h.1.1.0; agrees = tt }
restored_whole ThreePerGranule (a ∷ b ∷ c ∷ d ∷ is) e h = absurd (omega (arith, e))
restored_whole Share01Then2 [] e h = absurd (omega (arith, e))
restored_whole Share01Then2 (a ∷ []) e h = absurd (omega (arith, e))
restored_whole Share01Then2 (a ∷ b ∷ []) e h = record { sent_again = refl; tabled_again = three_tabled a a b h.0 h.0 h.1.0; agrees = refl }
restored_whole Share01Then2 (a ∷ b ∷ d ∷ is) e h = absurd (omega (arith, e))
restored_whole ShareAll [] e h = absurd (omega (arith, e))
restored_whole ShareAll (a ∷ []) e h = record { sent_again = refl; tabled_again = three_tabled a a a h.0 h.0 h.0; agrees = (refl, refl) }
restored_whole ShareAll (a ∷ d ∷ is) e h = absurd (omega (arith, e))
restored_whole Share0Then12 [] e h = absurd (omega (arith, e))
restored_whole Share0Then12 (a ∷ []) e h = absurd (omega (arith, e))
restored_whole Share0Then12 (a ∷ b ∷ []) e h = record { sent_again = refl; tabled_again = three_tabled a b b h.0 h.1.0 h.1.0; agrees = refl }
restored_whole Share0Then12 (a ∷ b ∷ d ∷ is) e h = absurd (omega (arith, e))

-- what is taken of a slot: its bits, indices that Table 3-B.1 has, and the sharing that its scfsi states
pub record ThreeIn (s : Scfsi) (t : Three) : Type 0 where
  pub tabled : tabled t ≡ true
  pub agrees : Agrees s t

pub three_took : (s : Scfsi) (bits : List Bool) (t : Three) (rest : List Bool) → three_taken s bits ≡ got t rest → (bits ≡ three_wire s t ++ rest) × ThreeIn s t
three_took s bits t rest e =
    let b = between (λ is. got (restored s is)) (indices_taken (parts_of s) bits) t rest e in
    let i = indices_took (parts_of s) bits b.value b.rest b.first in
    let r = restored_whole s b.value i.many i.tabled in
    let v = same_value b.second in (
      i.front ∙ ap₂ (λ (is : List ℕ) (bs : List Bool). flat_map (bits_of 6) is ++ bs) (sym r.sent_again ∙ ap (sent s) v) (same_rest b.second),
      subst (ThreeIn s) v (record { tabled = r.tabled_again; agrees = r.agrees }),
    )

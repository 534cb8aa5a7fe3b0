-- The slots of a layout by their number in the order of the bitstream.
use mathlib.Core.Path.{◌≡◌, refl, sym, ap, ◌∙◌}
use mathlib.Core.Bool.{Bool, true, false, cond}
use mathlib.Core.List.{List, [], ◌∷◌, ◌++◌, append_assoc, map}
use Prim.Native.Nat.{ℕ, zero, suc, ◌+◌, ◌*◌, ◌/◌, ◌%◌, ◌≤◌, ◌<◌}
use native.Mathlib.Nat.{not-suc-le-zero}
use native.Mathlib.Omega.{arith}
use lib.Dec.{eqb, ltb, lit<}
use lib.ListN.{length, get_or, length-append, get_or-eq_default}
use Rattle.tables.proofs.Listed.{at_append}
use Rattle.bitalloc.proofs.RowLaws.{sblimit_small}
use Rattle.layout.specs.declared.Layout.{Layout}
use Rattle.layout.specs.declared.AllocationField.{AllocationField}
use Rattle.layout.specs.Slots.{slot_of}
use Rattle.layout.specs.Layout.{own, shared, served, limit_of, fields_at, fields_below, slots_in, slots_of, SlotsAre, SlotIs}

slots_append : (xs ys : List AllocationField) → slots_in (xs ++ ys) ≡ slots_in xs ++ slots_in ys
slots_append [] ys = refl
slots_append (x ∷ xs) ys =
    let here = map (λ ch. slot_of ch x.subband) (served x) in
    ap (λ (s : List ℕ). here ++ s) (slots_append xs ys) ∙ sym (append_assoc here (slots_in xs) (slots_in ys))

-- the slots of the subbands below n: with one channel n of them, with two 2 * n, and which they are
abbrev pub slot_count : Bool → ℕ → ℕ
slot_count true n = n
slot_count false n = 2 * n

abbrev pub slot_numbered : Bool → ℕ → ℕ
slot_numbered true k = k
slot_numbered false k = slot_of (k % 2) (k / 2)

record Wired (one : Bool) (l : Layout) (n : ℕ) : Type 0 where
  pub many : length (slots_in (fields_below l n)) ≡ slot_count one n
  pub which : (k : ℕ) → k < slot_count one n → get_or (slots_in (fields_below l n)) k 0 ≡ slot_numbered one k

-- a subband's slots, whether its channels share a field or not
subband_slots : (l : Layout) (n : ℕ) → eqb l.channels 1 ≡ false → slots_in (fields_at l n) ≡ slot_of 0 n ∷ slot_of 1 n ∷ []
subband_slots l n e = rw e (go (ltb n l.bound))
  where
    go : (below : Bool) → slots_in (cond below (own n 0 ∷ own n 1 ∷ []) (shared n ∷ [])) ≡ slot_of 0 n ∷ slot_of 1 n ∷ []
    go true = refl
    go false = refl

one_wired : (l : Layout) → eqb l.channels 1 ≡ true → (n : ℕ) → Wired true l n
unfolding fields_below
one_wired l e zero = record { many = refl; which = λ k h. absurd (not-suc-le-zero h) }
one_wired l e (suc n) =
    let ih = one_wired l e n in
    let xs = slots_in (fields_below l n) in
    let q : slots_in (fields_below l n ++ fields_at l n) ≡ xs ++ (slot_of 0 n ∷ []) =
    slots_append (fields_below l n) (fields_at l n) ∙ (rw e refl) in
    record {
      many = ap length q ∙ length-append xs (slot_of 0 n ∷ []) ∙ (let m = ih.many in omega arith);
      which = λ k h. ap (λ (s : List ℕ). get_or s k 0) q ∙ at_append 0 xs (slot_of 0 n ∷ []) k n k ih.many (ih.which k) (last k) (omega arith);
    }
  where
    last : (k i : ℕ) → k ≡ n + i → i < 1 → get_or (slot_of 0 n ∷ []) i 0 ≡ k
    last k zero p h = omega arith
    last k (suc i) p h = absurd (omega arith)

two_wired : (l : Layout) → eqb l.channels 1 ≡ false → (n : ℕ) → Wired false l n
unfolding fields_below
two_wired l e zero = record { many = refl; which = λ k h. absurd (not-suc-le-zero h) }
two_wired l e (suc n) =
    let ih = two_wired l e n in
    let xs = slots_in (fields_below l n) in
    let both = slot_of 0 n ∷ slot_of 1 n ∷ [] in
    let q : slots_in (fields_below l n ++ fields_at l n) ≡ xs ++ both =
    slots_append (fields_below l n) (fields_at l n) ∙ ap (λ (s : List ℕ). xs ++ s) (subband_slots l n e) in
    record {
      many = ap length q ∙ length-append xs both ∙ (let m = ih.many in omega arith);
      which = λ k h. ap (λ (s : List ℕ). get_or s k 0) q
          ∙ at_append 0 xs both k (2 * n) (slot_numbered false k) ih.many (ih.which k) (last k) (omega arith);
    }
  where
    last : (k i : ℕ) → k ≡ 2 * n + i → i < 2 → get_or (slot_of 0 n ∷ slot_of 1 n ∷ []) i 0 ≡ 32 * (k % 2) + k / 2
    last k zero p h = omega arith
    last k (suc zero) p h = omega arith
    last k (suc (suc i)) p h = absurd (omega arith)

module _ (l : Layout) where
  abbrev one : Bool
  one = eqb l.channels 1

  wired : Wired one l (limit_of l)
  wired = go one refl
    where
      go : (one : Bool) → eqb l.channels 1 ≡ one → Wired one l (limit_of l)
      go true e = one_wired l e (limit_of l)
      go false e = two_wired l e (limit_of l)

  many : length (slots_of l) ≡ slot_count one (limit_of l)
  unfolding slots_of
  many = wired.many

  which : (k : ℕ) → k < length (slots_of l) → get_or (slots_of l) k 0 ≡ slot_numbered one k
  unfolding slots_of
  which k h = wired.which k (rw many at h)

  -- there are 60 at most
  pub few_slots : length (slots_of l) ≤ 60
  few_slots = rw many (go one (sblimit_small l.table))
    where
      go : (one : Bool) → limit_of l ≤ 30 → slot_count one (limit_of l) ≤ 60
      go true h = omega arith
      go false h = omega arith

  -- they are slots, and each comes once
  pub slot_small : (k : ℕ) → k < length (slots_of l) → get_or (slots_of l) k 0 < 64
  slot_small k h = rw (which k h) (go one (rw many at h) (sblimit_small l.table))
    where
      go : (one : Bool) → k < slot_count one (limit_of l) → limit_of l ≤ 30 → slot_numbered one k < 64
      go true h m = omega arith
      go false h m = omega arith

  pub slots_differ : (i j : ℕ) → i < j → j < length (slots_of l) → get_or (slots_of l) i 0 ≡ get_or (slots_of l) j 0 → ⊥
  slots_differ i j m h e = go one m (rw many at h) (sblimit_small l.table) (sym (which i (omega arith)) ∙ e ∙ which j h)
    where
      go : (one : Bool) → i < j → j < slot_count one (limit_of l) → limit_of l ≤ 30 → slot_numbered one i ≡ slot_numbered one j → ⊥
      go true m h few e = omega arith
      go false m h few e = omega arith

  pub slots_are : (n : ℕ) → n ≡ slot_count one (limit_of l) → n ≤ 60 → SlotsAre l n
  slots_are n e h = record { whole = e ∙ sym many; few = h }

  pub slot_is : (k n : ℕ) → k < length (slots_of l) → n ≡ slot_numbered one k → n < 64 → SlotIs l k n
  slot_is k n h e b = record { whole = e ∙ sym (which k h); below = b }

  -- past the last slot
  pub no_slot : (k : ℕ) → length (slots_of l) ≤ k → SlotIs l k 0
  no_slot k h = record { whole = sym (get_or-eq_default (slots_of l) 0 {n = k} h); below = lit< tt }

-- The active slots as they are gathered: those so far and those among the slots to come are all.
use mathlib.Core.Path.{◌≡◌, refl, sym, ap, ap₂, ◌∙◌}
use mathlib.Core.Bool.{Bool, true, false, cond}
use mathlib.Core.List.{List, [], ◌∷◌, ◌++◌, append-nil, append_assoc}
use Prim.Native.Nat.{ℕ, zero, suc, ◌+◌, ◌≤◌, ◌<◌}
use native.Mathlib.Nat.{le_refl, add-zero}
use native.Mathlib.Numerals.{add-one}
use native.Mathlib.Omega.{arith}
use mir.Val.{bool_byte}
use lib.Dec.{eqb, ltb, lit<}
use lib.ListN.{length, get_or, take, drop, set, replicate, length-set, drop_of_length-le}
use lib.Seq.{drop-cons, take-suc-set, take-set-le, length-take-le, get_or-take}
use borrow.Author.Tests.{ltb-true, ltb-false, ne_eqb, eq-eqb}
use Rattle.layout.specs.declared.Layout.{Layout}
use Rattle.layout.specs.Layout.{slots_of}
use Rattle.layout.proofs.WireLaws.{few_slots}
use Rattle.side_info.specs.SideInfo.{active_among, active_slots}
use Rattle.active_slots.specs.declared.slots.ActiveSlots.{ActiveSlots}
use Rattle.active_slots.specs.Slots.{SlotsIn}
use Rattle.active_slots.specs.Active.{listed}

-- ---- for the loops over them

module _ (a : ActiveSlots) where
  pub listed_long : length (listed a) ≡ a.count
  listed_long = length-take-le a.count a.slots (let l = a.within.long in let f = a.within.few in omega arith)

  pub listed_few : length (listed a) ≤ 60
  listed_few = rw listed_long a.within.few

  pub listed_at : (k : ℕ) → k < a.count → get_or a.slots k 0 ≡ get_or (listed a) k 0
  listed_at k h = sym (get_or-take a.count a.slots k 0 h)

  pub listed_here : (k : ℕ) → k < a.count → k < length (listed a)
  listed_here k h = rw listed_long h

  pub listed_over : (k : ℕ) → a.count ≤ k → length (listed a) ≤ k
  listed_over k h = rw listed_long h

-- ---- as they are gathered

pub zeros_below : (j : ℕ) → get_or (replicate 64 0) j 0 < 64
zeros_below = go 64
  where
    go : (n j : ℕ) → get_or (replicate n 0) j 0 < 64
    go zero j = lit< tt
    go (suc n) zero = lit< tt
    go (suc n) (suc j) = go n j

set_below : (xs : List ℕ) (i v : ℕ) → ((j : ℕ) → get_or xs j 0 < 64) → v < 64 → (j : ℕ) → get_or (set xs i v) j 0 < 64
set_below [] i v h s j = h j
set_below (x ∷ xs) zero v h s zero = s
set_below (x ∷ xs) zero v h s (suc j) = h (suc j)
set_below (x ∷ xs) (suc i) v h s zero = h 0
set_below (x ∷ xs) (suc i) v h s (suc j) = set_below xs i v (λ j. h (suc j)) s j

module _ (l : Layout) (steps : List ℕ) where
  pub record ActiveTo (k count : ℕ) (active : List ℕ) : Type 0 where
    pub long : length active ≡ 64
    pub within : count ≤ k
    pub below : (j : ℕ) → get_or active j 0 < 64
    pub all : take count active ++ active_among steps (drop k (slots_of l)) ≡ active_slots l steps

  pub none_active : (active : List ℕ) → length active ≡ 64 → ((j : ℕ) → get_or active j 0 < 64) → ActiveTo 0 0 active
  unfolding active_slots
  none_active active e b = record { long = e; within = le_refl 0; below = b; all = refl }

  module _ (k count slot : ℕ) (active : List ℕ) (so_far : ActiveTo k count active) (here : k < length (slots_of l)) (e : slot ≡ get_or (slots_of l) k 0) (small : slot < 64) where
    pub one_active : ActiveTo (k + 1) (count + bool_byte (ltb 0 (get_or steps slot 0))) (set active count slot)
    one_active = go (ltb 0 (get_or steps slot 0)) refl
      where
        room : count < length active
        room = let w = so_far.within in let g = so_far.long in omega (arith, few_slots l)

        come : List ℕ
        come = active_among steps (drop (k + 1) (slots_of l))

        next : drop k (slots_of l) ≡ slot ∷ drop (k + 1) (slots_of l)
        next = drop-cons (slots_of l) k 0 here ∙ ap₂ (λ (s n : ℕ). s ∷ drop n (slots_of l)) (sym e) (sym (add-one k))

        before : take count active ++ cond (eqb (get_or steps slot 0) 0) come (slot ∷ come) ≡ active_slots l steps
        before = ap (λ (xs : List ℕ). take count active ++ active_among steps xs) (sym next) ∙ so_far.all

        go : (v : Bool) → ltb 0 (get_or steps slot 0) ≡ v → ActiveTo (k + 1) (count + bool_byte v) (set active count slot)
        go true q =
            let m = ltb-true 0 (get_or steps slot 0) q in
            let f = ne_eqb (get_or steps slot 0) 0 (λ z. omega arith) in
            record {
              long = length-set active count slot ∙ so_far.long;
              within = let w = so_far.within in omega arith;
              below = set_below active count slot so_far.below small;
              all = ap (λ (n : ℕ). take n (set active count slot) ++ come) (add-one count)
                  ∙ ap (λ (xs : List ℕ). xs ++ come) (take-suc-set active count slot room)
                  ∙ append_assoc (take count active) (slot ∷ []) come
                  ∙ ap (λ (b : Bool). take count active ++ cond b come (slot ∷ come)) (sym f) ∙ before;
            }
        go false q =
            let m = ltb-false 0 (get_or steps slot 0) q in
            let t = eq-eqb (get_or steps slot 0) 0 (omega arith) in
            record {
              long = length-set active count slot ∙ so_far.long;
              within = let w = so_far.within in omega arith;
              below = set_below active count slot so_far.below small;
              all = ap (λ (n : ℕ). take n (set active count slot) ++ come) (add-zero count)
                  ∙ ap (λ (xs : List ℕ). xs ++ come) (take-set-le count active count slot (le_refl count))
                  ∙ ap (λ (b : Bool). take count active ++ cond b come (slot ∷ come)) (sym t) ∙ before;
            }

  pub all_within : (k count : ℕ) (active : List ℕ) → k ≤ length (slots_of l) → ActiveTo k count active → SlotsIn active count
  all_within k count active h so_far = record { long = so_far.long; few = let w = so_far.within in omega (arith, few_slots l); below = so_far.below }

  pub all_active : (k count : ℕ) (active : List ℕ) → length (slots_of l) ≤ k → ActiveTo k count active → take count active ≡ active_slots l steps
  all_active k count active over so_far =
      sym (append-nil (take count active))
      ∙ ap (λ (xs : List ℕ). take count active ++ active_among steps xs) (sym (drop_of_length-le (slots_of l) {i = k} over)) ∙ so_far.all

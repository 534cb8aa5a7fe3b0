-- Taking one value for each of a list. What was sent is taken (`each_back`); and what was taken was sent (`each_forth`).
use mathlib.Core.Path.{◌≡◌, refl, sym, ap, ap₂, ◌∙◌, subst}
use mathlib.Core.Bool.{Bool, true, false, cond, true≢false}
use mathlib.Core.List.{List, [], ◌∷◌, ◌++◌, append_assoc, flat_map}
use mathlib.Core.Logic.{◌⊎◌, inl, inr}
use Prim.Native.Nat.{ℕ, ◌+◌, ◌^◌, ◌≤◌, ◌<◌}
use native.Mathlib.Numerals.{add-one}
use native.Mathlib.Omega.{arith}
use lib.Dec.{leb}
use lib.ListN.{length, get_or, take, drop, length-append, take-append-drop, drop_of_length-le}
use lib.Seq.{ext_get_or, drop-cons, length-take-le}
use borrow.Author.Tests.{le-leb, leb-true}
use Rattle.tables.specs.Search.{one_of}
use Rattle.tables.proofs.Keys.{no_key_either}
use Rattle.bit_string.specs.Bits.{bits_of, value_of, front}
use Rattle.bit_string.proofs.BitLaws.{length_bits, value_small, bits_value, read_back, behind}
use Rattle.side_info_reading.specs.Taken.{Taken, got, refused, and_then, number_taken, laid, each_taken}
use Rattle.side_info.proofs.ListLaws.{Each, each_map, Distinct, distinct_front, distinct_behind, apart, each_front, each_behind, in_neither}
use Rattle.side_info_reading.proofs.LaidLaws.{places_of, Held, length_laid, laid_elsewhere, laid_agrees, laid_held, held_same}

-- ---- what is got

abbrev value_in : {A : Type 0} → A → Taken A → A
value_in d (got x rest) = x
value_in d (refused n) = d

abbrev rest_in : {A : Type 0} → Taken A → List Bool
rest_in (got x rest) = rest
rest_in (refused n) = []

abbrev is_got : {A : Type 0} → Taken A → Bool
is_got (got x rest) = true
is_got (refused n) = false

module _ {A : Type 0} {x y : A} {bs cs : List Bool} (e : got x bs ≡ got y cs) where
  pub same_value : x ≡ y
  same_value = ap (value_in x) e

  pub same_rest : bs ≡ cs
  same_rest = ap rest_in e

pub not_got : {A : Type 0} {n : ℕ} {x : A} {rest : List Bool} → refused n ≡ got x rest → ⊥
not_got e = true≢false (sym (ap is_got e))

module _ {A B : Type 0} (next : A → List Bool → Taken B) where
  pub then_got : (t : Taken A) (x : A) (rest : List Bool) → t ≡ got x rest → and_then t next ≡ next x rest
  unfolding and_then
  then_got t x rest e = ap (λ (t : Taken A). and_then t next) e

  pub then_refused : (t : Taken A) (n : ℕ) → t ≡ refused n → and_then t next ≡ refused n
  unfolding and_then
  then_refused t n e = ap (λ (t : Taken A). and_then t next) e

  -- what is got in the end was got on the way
  pub record Between (t : Taken A) (y : B) (end : List Bool) : Type 0 where
    pub value : A
    pub rest : List Bool
    pub first : t ≡ got value rest
    pub second : next value rest ≡ got y end

  pub between : (t : Taken A) (y : B) (end : List Bool) → and_then t next ≡ got y end → Between t y end
  unfolding and_then
  between (got x rest) y end e = record { value = x; rest = rest; first = refl; second = e }
  between (refused n) y end e = absurd (not_got e)

-- ---- a number

pub number_sent : (w n : ℕ) (rest : List Bool) → n < 2 ^ w → number_taken w (bits_of w n ++ rest) ≡ got n rest
unfolding number_taken
number_sent w n rest h =
    let l : w ≤ length (bits_of w n ++ rest) = omega (arith, length-append (bits_of w n) rest, length_bits w n) in
    ap (λ (b : Bool). cond b (got (front w (bits_of w n ++ rest)) (drop w (bits_of w n ++ rest))) (refused 9)) (le-leb w _ l)
    ∙ ap₂ got (read_back w n rest h) (behind w n rest)

pub record NumberIn (w : ℕ) (bits : List Bool) (n : ℕ) (rest : List Bool) : Type 0 where
  pub small : n < 2 ^ w
  pub front : bits ≡ bits_of w n ++ rest

pub number_taken_lem : (w : ℕ) (bits : List Bool) (n : ℕ) (rest : List Bool) → number_taken w bits ≡ got n rest → NumberIn w bits n rest
unfolding number_taken
number_taken_lem w bits n rest e = go (leb w (length bits)) refl e
  where
    go : (b : Bool) → leb w (length bits) ≡ b → cond b (got (front w bits) (drop w bits)) (refused 9) ≡ got n rest → NumberIn w bits n rest
    go true q e =
        let l : length (take w bits) ≡ w = length-take-le w bits (leb-true w (length bits) q) in
        let v : value_of (take w bits) ≡ n = same_value e in
        let small : value_of (take w bits) < 2 ^ length (take w bits) = value_small (take w bits) in
        record {
          small = subst (λ (k : ℕ). n < 2 ^ k) l (subst (λ (m : ℕ). m < 2 ^ length (take w bits)) v small);
          front = sym (take-append-drop w bits)
              ∙ ap₂ ◌++◌ (sym (bits_value (take w bits)) ∙ ap₂ bits_of l v) (same_rest e);
        }
    go false q e = absurd (not_got e)

-- ---- for each of a list

module _ {X A C : Type 0} (take : X → List Bool → Taken A) (at : X → A → List (ℕ × C)) where
  abbrev each : List X → List C → List Bool → Taken (List C)
  each = each_taken take at

  -- as a loop goes: the entry of a number, and no entry left
  pub each_next : (xs : List X) (k : ℕ) (d : X) (cells : List C) (bits : List Bool) → k < length xs
      → each (drop k xs) cells bits ≡ and_then (take (get_or xs k d) bits) (λ v. each (drop (k + 1) xs) (laid (at (get_or xs k d) v) cells))
  unfolding each_taken
  each_next xs k d cells bits h =
      ap (λ (ys : List X). each ys cells bits) (drop-cons xs k d h)
      ∙ ap (λ (n : ℕ). and_then (take (get_or xs k d) bits) (λ v. each (drop n xs) (laid (at (get_or xs k d) v) cells))) (sym (add-one k))

  pub each_end : (xs : List X) (k : ℕ) (cells : List C) (bits : List Bool) → length xs ≤ k → each (drop k xs) cells bits ≡ got cells bits
  unfolding each_taken
  each_end xs k cells bits h = ap (λ (ys : List X). each ys cells bits) (drop_of_length-le xs {i = k} h)

  module _ (d : C) where
    -- ---- what was sent is taken

    module _ (g : X → A) (wire : X → List Bool) where
      abbrev pub places_by : List X → List ℕ
      places_by xs = flat_map (λ x. places_of (at x (g x))) xs

      -- an entry whose bits give its value, which the target has
      pub record Sent (target : List C) (x : X) : Type 0 where
        pub taken : (rest : List Bool) → take x (wire x ++ rest) ≡ got (g x) rest
        pub held : Held d target (at x (g x))

      pub each_back : (xs : List X) (cells target : List C) (rest : List Bool) → Each (Sent target) xs → length cells ≡ length target
          → ((k : ℕ) → (one_of (places_by xs) k ≡ true) ⊎ (get_or cells k d ≡ get_or target k d)) → each xs cells (flat_map wire xs ++ rest) ≡ got target rest
      unfolding each_taken flat_map one_of
      each_back [] cells target rest s l agree =
          ap (λ (cs : List C). got cs rest) (ext_get_or d cells target l (λ k h. here k (agree k)))
        where
          here : (k : ℕ) → (false ≡ true) ⊎ (get_or cells k d ≡ get_or target k d) → get_or cells k d ≡ get_or target k d
          here k (inl e) = absurd (true≢false (sym e))
          here k (inr e) = e
      each_back (x ∷ xs) cells target rest s l agree =
          let ps = at x (g x) in
          ap (each (x ∷ xs) cells) (append_assoc (wire x) (flat_map wire xs) rest)
          ∙ then_got (λ v. each xs (laid (at x v) cells)) (take x (wire x ++ (flat_map wire xs ++ rest))) (g x) (flat_map wire xs ++ rest)
          (s.0.taken (flat_map wire xs ++ rest))
          ∙ each_back xs (laid ps cells) target rest s.1 (length_laid ps cells ∙ l) (λ k. further k (agree k))
        where
          further : (k : ℕ) → (one_of (places_of (at x (g x)) ++ places_by xs) k ≡ true) ⊎ (get_or cells k d ≡ get_or target k d)
              → (one_of (places_by xs) k ≡ true) ⊎ (get_or (laid (at x (g x)) cells) k d ≡ get_or target k d)
          further k (inr e) = inr (laid_agrees d (at x (g x)) cells target k l s.0.held (inr e))
          further k (inl e) = go (one_of (places_by xs) k) refl (one_of (places_of (at x (g x))) k) refl
            where
              go : (b : Bool) → one_of (places_by xs) k ≡ b → (c : Bool) → one_of (places_of (at x (g x))) k ≡ c
                  → (one_of (places_by xs) k ≡ true) ⊎ (get_or (laid (at x (g x)) cells) k d ≡ get_or target k d)
              go true p c q = inl p
              go false p true q = inr (laid_agrees d (at x (g x)) cells target k l s.0.held (inl q))
              go false p false q = absurd (true≢false (sym e ∙ no_key_either (places_of (at x (g x))) (places_by xs) k q p))

    -- ---- what was taken was sent

    module _ (places : X → List ℕ) (placed : (x : X) (a : A) → places_of (at x a) ≡ places x)
        (wire : X → A → List Bool) (Able : X → Type 0) (Kept : X → A → Type 0)
        (took : (x : X) → Able x → (bits : List Bool) (a : A) (rest : List Bool) → take x bits ≡ got a rest → (bits ≡ wire x a ++ rest) × Kept x a)
        (value : List C → X → A) (value-is : (cells : List C) (x : X) → Able x → (a : A) → Held d cells (at x a) → value cells x ≡ a) where
      -- an entry's value, found again in the target
      pub record Found (target : List C) (x : X) : Type 0 where
        pub kept : Kept x (value target x)
        pub held : Held d target (at x (value target x))

      pub record Forth (xs : List X) (cells : List C) (bits : List Bool) (target : List C) (rest : List Bool) : Type 0 where
        pub long : length target ≡ length cells
        pub elsewhere : (k : ℕ) → one_of (flat_map places xs) k ≡ false → get_or target k d ≡ get_or cells k d
        pub found : Each (Found target) xs
        pub sent : bits ≡ flat_map (λ x. wire x (value target x)) xs ++ rest

      -- one more before the others
      module _ (x : X) (xs : List X) (cells : List C) (bits : List Bool) (target : List C) (rest : List Bool) (able : Able x) (a : A) (more : List Bool)
          (first : take x bits ≡ got a more) (ih : Forth xs (laid (at x a) cells) more target rest)
          (different : Distinct (places x ++ flat_map places xs)) (within : Each (λ k. k < length cells) (places x ++ flat_map places xs)) where
        there : Held d target (at x a)
        there =
            let here = places x in
            let come = flat_map places xs in
            held_same d (at x a) (laid (at x a) cells) target ih.long
            (subst (λ (ks : List ℕ). Each (λ k. get_or target k d ≡ get_or (laid (at x a) cells) k d) ks) (sym (placed x a))
            (each_map _ _ (λ k n. ih.elsewhere k n) here (apart here come different)))
            (laid_held d (at x a) cells (subst Distinct (sym (placed x a)) (distinct_front here come different))
            (subst (Each (λ k. k < length cells)) (sym (placed x a)) (each_front (λ k. k < length cells) here come within)))

        pub one_forth : Forth (x ∷ xs) cells bits target rest
        unfolding flat_map
        one_forth =
            let v = value-is target x able a there in
            let t = took x able bits a more first in
            record {
              long = ih.long ∙ length_laid (at x a) cells;
              elsewhere = λ k n.
                  let m = in_neither k (places x) (flat_map places xs) n in
                  ih.elsewhere k m.1 ∙ laid_elsewhere d (at x a) cells k (ap (λ (ks : List ℕ). one_of ks k) (placed x a) ∙ m.0);
              found = (record { kept = subst (Kept x) (sym v) t.1; held = subst (λ (b : A). Held d target (at x b)) (sym v) there }, ih.found);
              sent = t.0 ∙ ap₂ (λ (b : A) (bs : List Bool). wire x b ++ bs) (sym v) ih.sent
                  ∙ sym (append_assoc (wire x (value target x)) (flat_map (λ x. wire x (value target x)) xs) rest);
            }

      pub each_forth : (xs : List X) (cells : List C) (bits : List Bool) (target : List C) (rest : List Bool) → each xs cells bits ≡ got target rest
          → Each Able xs → Distinct (flat_map places xs) → Each (λ k. k < length cells) (flat_map places xs) → Forth xs cells bits target rest
      unfolding each_taken flat_map
      each_forth [] cells bits target rest e able n b = record {
        long = ap length (sym (same_value e));
        elsewhere = λ k m. ap (λ (cs : List C). get_or cs k d) (sym (same_value e));
        found = tt;
        sent = same_rest e;
      }
      each_forth (x ∷ xs) cells bits target rest e able n b =
          let on = between (λ v. each xs (laid (at x v) cells)) (take x bits) target rest e in
          let ps = at x on.value in
          one_forth x xs cells bits target rest able.0 on.value on.rest on.first
          (each_forth xs (laid ps cells) on.rest target rest on.second able.1 (distinct_behind (places x) (flat_map places xs) n)
          (subst (λ (m : ℕ). Each (λ k. k < m) (flat_map places xs)) (sym (length_laid ps cells)) (each_behind (λ k. k < length cells) (places x) (flat_map places xs) b)))
          n b

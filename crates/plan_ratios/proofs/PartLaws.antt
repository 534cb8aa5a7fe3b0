-- A text, met byte by byte: what is ahead of each byte, and the tokens that are taken.
use Rattle.std.proofs.Common.{◌≡◌, refl, sym, ap, ◌∙◌, subst, ℕ, zero, suc, ◌+◌, ◌-◌, ◌≤◌, ◌<◌, Bool, true, false, cond, ◌||◌, T, ne_eqb, List, [], ◌∷◌, ◌++◌, map, length, get_or, take, drop, arith, add-one, drop-cons, drop-drop, length-drop, length-take-le}
use Rattle.std.proofs.lemmas.List.{append_assoc, append-nil, get_or-drop}
use lib.ListN.{drop_of_length-le}
use lib.Seq.{take_all}
use Rattle.plan_text.specs.Bytes.{reach}
use Rattle.plan_text.specs.Lines.{ends_line, is_hash, is_blank, is_end}
use Rattle.plan_text.proofs.ByteLaws.{take_rest, reach_most}
use Rattle.plan_ratios.specs.declared.RatiosError.{RatiosError}
use Rattle.plan_ratios.specs.declared.Slots.{Slots}
use Rattle.plan_ratios.specs.Tokens.{filled, on_line, Token, tokens_from}
use Rattle.plan_ratios.specs.Walk.{Filled, Passed, Refused}
use Rattle.plan_ratios.proofs.TokenLaws.{Plain, feed_first, blank_first, hash_first, token_first}
use Rattle.plan_ratios.proofs.WalkLaws.{then_passed, then_refused, front_refused, none_passed}

-- ---- how far a test reaches

module _ (p : ℕ → Bool) where
  reach_on : (bs : List ℕ) (j : ℕ) → j ≤ reach p bs → j < length bs → p (get_or bs j 0) ≡ false → suc j ≤ reach p bs
  reach_on [] j h l e = absurd (omega arith)
  reach_on (b ∷ bs) zero h l e = rw e (omega arith)
  reach_on (b ∷ bs) (suc j) h l e = go (p b) h (λ g. reach_on bs j g (omega arith) e)
    where
      go : (t : Bool) → suc j ≤ cond t 0 (suc (reach p bs)) → (j ≤ reach p bs → suc j ≤ reach p bs) → suc (suc j) ≤ cond t 0 (suc (reach p bs))
      go true h f = absurd (omega arith)
      go false h f = let g = f (omega arith) in omega arith

  reach_here : (bs : List ℕ) (j : ℕ) → j ≤ reach p bs → j < length bs → p (get_or bs j 0) ≡ true → reach p bs ≡ j
  reach_here [] j h l e = absurd (omega arith)
  reach_here (b ∷ bs) zero h l e = rw e refl
  reach_here (b ∷ bs) (suc j) h l e = go (p b) h (λ g. reach_here bs j g (omega arith) e)
    where
      go : (t : Bool) → suc j ≤ cond t 0 (suc (reach p bs)) → (j ≤ reach p bs → reach p bs ≡ j) → cond t 0 (suc (reach p bs)) ≡ suc j
      go true h f = absurd (omega arith)
      go false h f = ap suc (f (omega arith))

-- ---- a part in front of what ends it

-- the token of a part, which has none where it is empty
abbrev token_of : ℕ → List ℕ → List Token
token_of n w = map (on_line n) (filled (w ∷ []))

filled_one : (n : ℕ) (w : List ℕ) → 0 < length w → token_of n w ≡ on_line n w ∷ []
filled_one n [] h = absurd (omega arith)
filled_one n (b ∷ bs) h = refl

plain : (b : ℕ) → is_end b ≡ false → Plain b
plain b = go (ends_line b) (is_hash b) (is_blank b) refl refl refl
  where
    go : (x y z : Bool) → ends_line b ≡ x → is_hash b ≡ y → is_blank b ≡ z → x || y || z ≡ false → Plain b
    go false false false e f g h = record { no_line = e; no_hash = f; no_blank = g }
    go false false true e f g h = absurd (subst T h tt)
    go false true z e f g h = absurd (subst T h tt)
    go true y z e f g h = absurd (subst T h tt)

part_first : (n : ℕ) (bs : List ℕ) → tokens_from n bs ≡ token_of n (take (reach is_end bs) bs) ++ tokens_from n (drop (reach is_end bs) bs)
part_first n [] = refl
part_first n (b ∷ bs) = go (is_end b) refl
  where
    go : (t : Bool) → is_end b ≡ t
        → tokens_from n (b ∷ bs) ≡ token_of n (take (cond t 0 (suc (reach is_end bs))) (b ∷ bs)) ++ tokens_from n (drop (cond t 0 (suc (reach is_end bs))) (b ∷ bs))
    go true e = refl
    go false e = token_first n b bs (plain b e)

-- ---- before each byte

module _ (text : List ℕ) (old : Slots) where
  -- `ts` are taken, n is the number of the line, and from `start` on no byte before the one at k ends a token
  pub record Met (n start k : ℕ) (s : Slots) : Type 0 where
    pub ts : List Token
    pub passed : Passed ts old s
    pub split : tokens_from 1 text ≡ ts ++ tokens_from n (drop start text)
    pub low : start ≤ k
    pub far : k ≤ start + reach is_end (drop start text)
    pub few : n ≤ k + 1
    pub within : k ≤ length text

  pub at_front : Filled old → Met 1 0 0 old
  at_front f = record { ts = []; passed = none_passed old f; split = refl; low = omega arith; far = omega arith; few = omega arith; within = omega arith }

  -- at a byte that ends a token, once what stands before it is taken
  pub record At (n k : ℕ) (s : Slots) : Type 0 where
    pub ts : List Token
    pub passed : Passed ts old s
    pub split : tokens_from 1 text ≡ ts ++ tokens_from n (drop k text)

  begun : (n k : ℕ) (s : Slots) → At n k s → n ≤ k + 1 → k ≤ length text → Met n k k s
  begun n k s a l h = record { ts = a.ts; passed = a.passed; split = a.split; low = omega arith; far = omega arith; few = l; within = h }

  module _ (n k : ℕ) (s : Slots) (a : At n k s) (h : k < length text) (few : n ≤ k + 1) where
    abbrev byte : ℕ
    byte = get_or text k 0

    abbrev behind : List ℕ
    behind = drop (k + 1) text

    front : drop k text ≡ byte ∷ behind
    front = drop-cons text k 0 h ∙ ap (λ (j : ℕ). byte ∷ drop j text) (sym (add-one k))

    moved : (m j : ℕ) → tokens_from n (byte ∷ behind) ≡ tokens_from m (drop j text) → At m j s
    moved m j e = record {
      ts = a.ts;
      passed = a.passed;
      split = a.split ∙ ap (λ (bs : List ℕ). a.ts ++ tokens_from n bs) front ∙ ap (λ (us : List Token). a.ts ++ us) e;
    }

    -- behind a line feed
    pub feed_met : byte ≡ 10 → Met (n + 1) (k + 1) (k + 1) s
    feed_met e = begun (n + 1) (k + 1) s (moved (n + 1) (k + 1) (rw (add-one n) (feed_first n byte behind (rw e refl)))) (omega (arith, few)) (omega arith)

    -- behind white space
    pub blank_met : (byte ≡ 10 → ⊥) → (byte ≡ 35 → ⊥) → is_end byte ≡ true → Met n (k + 1) (k + 1) s
    blank_met f g e = begun n (k + 1) s (moved n (k + 1) (blank_first n byte behind no none blank)) (omega (arith, few)) (omega arith)
      where
        no : ends_line byte ≡ false
        no = ne_eqb byte 10 f

        none : is_hash byte ≡ false
        none = ne_eqb byte 35 g

        blank : is_blank byte ≡ true
        blank = subst (λ (x : Bool). x || is_blank byte ≡ true) none (subst (λ (x : Bool). x || is_hash byte || is_blank byte ≡ true) no e)

    -- from a # on: at the line feed, or at the end
    pub hash_met : byte ≡ 35 → (j : ℕ) → j ≡ k + reach ends_line (drop k text) → Met n j j s
    hash_met e j i =
        let m = reach_most ends_line (drop k text) in
        begun n j s (moved n j (hash_first n byte behind no (rw e refl) ∙ ap (tokens_from n) goes)) (omega (arith, few, i)) (omega (arith, i, m, length-drop k text))
      where
        no : ends_line byte ≡ false
        no = rw e refl

        one : reach ends_line (drop k text) ≡ suc (reach ends_line behind)
        one = ap (reach ends_line) front ∙ rw no refl

        goes : drop (reach ends_line behind) behind ≡ drop j text
        goes =
            let z : k + 1 + reach ends_line behind ≡ j = omega (arith, one, i) in
            drop-drop (reach ends_line behind) (k + 1) text ∙ ap (λ (m : ℕ). drop m text) z

  module _ (n start k : ℕ) (s : Slots) (w : Met n start k s) where
    module _ (h : k < length text) where
      there : k - start < length (drop start text)
      there = omega (arith, length-drop start text, w.low)

      at_byte : get_or (drop start text) (k - start) 0 ≡ get_or text k 0
      at_byte = let e : start + (k - start) ≡ k = omega (arith, w.low) in get_or-drop start text (k - start) 0 ∙ ap (λ (i : ℕ). get_or text i 0) e

      -- a byte that ends no token
      pub one_more : is_end (get_or text k 0) ≡ false → Met n start (k + 1) s
      one_more e =
          let r = reach_on is_end (drop start text) (k - start) (omega (arith, w.far, w.low)) there (ap is_end at_byte ∙ e) in
          record {
            ts = w.ts;
            passed = w.passed;
            split = w.split;
            low = omega (arith, w.low);
            far = omega (arith, r, w.low);
            few = omega (arith, w.few);
            within = omega arith;
          }

      -- one that does: what stands before it
      module _ (e : is_end (get_or text k 0) ≡ true) where
        abbrev part : List ℕ
        part = take (k - start) (drop start text)

        parted : tokens_from 1 text ≡ w.ts ++ (token_of n part ++ tokens_from n (drop k text))
        parted =
            let r = reach_here is_end (drop start text) (k - start) (omega (arith, w.far, w.low)) there (ap is_end at_byte ∙ e) in
            let z : start + (k - start) ≡ k = omega (arith, w.low) in
            let d : drop (k - start) (drop start text) ≡ drop k text = drop-drop (k - start) start text ∙ ap (λ (j : ℕ). drop j text) z in
            w.split
            ∙ ap (λ (us : List Token). w.ts ++ us) (part_first n (drop start text))
            ∙ ap (λ (j : ℕ). w.ts ++ (token_of n (take j (drop start text)) ++ tokens_from n (drop j (drop start text)))) r
            ∙ ap (λ (bs : List ℕ). w.ts ++ (token_of n part ++ tokens_from n bs)) d

        taken_with : (r : Slots) → Passed (token_of n part) s r → At n k r
        taken_with r q = record {
          ts = w.ts ++ token_of n part;
          passed = then_passed w.ts (token_of n part) old s w.passed r q;
          split = parted ∙ sym (append_assoc w.ts (token_of n part) (tokens_from n (drop k text)));
        }

        -- a token
        module _ (l : start < k) where
          one : token_of n part ≡ on_line n part ∷ []
          one = filled_one n part (let t = there in omega (arith, length-take-le (k - start) (drop start text) (omega arith)))

          pub part_taken : (r : Slots) → Passed (on_line n part ∷ []) s r → At n k r
          part_taken r q = taken_with r (rw (one) q)

          pub part_refused : (x : RatiosError) → Refused (on_line n part ∷ []) s x → Refused (tokens_from 1 text) old x
          part_refused x q =
              rw (parted)
              (then_refused w.ts (token_of n part ++ tokens_from n (drop k text)) old s w.passed x (front_refused (token_of n part) (tokens_from n (drop k text)) s x (rw (one) q)))

        -- or nothing
        pub none_taken : k ≤ start → At n k s
        none_taken l = let z : k - start ≡ 0 = omega arith in taken_with s (rw z (none_passed s w.passed.filled))

    -- behind the last byte
    module _ (h : length text ≤ k) where
      last : tokens_from 1 text ≡ w.ts ++ token_of n (drop start text)
      unfolding tokens_from
      last =
          let l : reach is_end (drop start text) ≡ length (drop start text) =
          omega (arith, length-drop start text, w.far, w.low, reach_most is_end (drop start text)) in
          w.split
          ∙ ap (λ (us : List Token). w.ts ++ us) (part_first n (drop start text))
          ∙ ap (λ (j : ℕ). w.ts ++ (token_of n (take j (drop start text)) ++ tokens_from n (drop j (drop start text)))) l
          ∙ ap (λ (bs : List ℕ). w.ts ++ (token_of n (take (length (drop start text)) (drop start text)) ++ tokens_from n bs))
          (drop_of_length-le (drop start text) {i = length (drop start text)} (omega arith))
          ∙ ap (λ (bs : List ℕ). w.ts ++ (token_of n bs ++ [])) (take_all (length (drop start text)) (drop start text) (omega arith))
          ∙ ap (λ (us : List Token). w.ts ++ us) (append-nil (token_of n (drop start text)))

      pub none_left : length text ≤ start → Passed (tokens_from 1 text) old s
      none_left l = let d : drop start text ≡ [] = drop_of_length-le text {i = start} (omega arith) in rw (last, d) (rw (append-nil w.ts) w.passed)

      module _ (l : start < length text) (m : ℕ) (e : m ≡ length text - start) where
        one_last : token_of n (drop start text) ≡ on_line n (drop start text) ∷ []
        one_last = filled_one n (drop start text) (omega (arith, length-drop start text))

        rest_is : take m (drop start text) ≡ drop start text
        rest_is = rw e (take_rest text start)

        pub last_taken : (r : Slots) → Passed (on_line n (take m (drop start text)) ∷ []) s r → Passed (tokens_from 1 text) old r
        last_taken r q =
            rw (last, one_last)
            (then_passed w.ts (on_line n (drop start text) ∷ []) old s w.passed r (subst (λ (bs : List ℕ). Passed (on_line n bs ∷ []) s r) rest_is q))

        pub last_refused : (x : RatiosError) → Refused (on_line n (take m (drop start text)) ∷ []) s x → Refused (tokens_from 1 text) old x
        last_refused x q =
            rw (last, one_last)
            (then_refused w.ts (on_line n (drop start text) ∷ []) old s w.passed x (subst (λ (bs : List ℕ). Refused (on_line n bs ∷ []) s x) rest_is q))

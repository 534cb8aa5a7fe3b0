-- Laws of the questions: what is asked behind others decides where those are all answered yes, and nowhere else.
use mathlib.Core.Path.{◌≡◌, refl, sym, ap, ◌∙◌}
use mathlib.Core.Bool.{Bool, true, false, not, cond, ◌&&◌, true≢false}
use mathlib.Core.List.{List, [], ◌∷◌, ◌++◌}
use Prim.Native.Nat.{ℕ}
use lib.Dec.{T, eqb}
use borrow.Author.Tests.{eqb-true, eq-eqb}
use Rattle.header.specs.Questions.{Question, first_no, number, telling}

module _ {A : Type 0} where
  -- the next question is answered yes, or no
  pub said_yes : (a : A) (q : Question A) (qs : List (Question A)) → q.yes ≡ true → first_no a (q ∷ qs) ≡ first_no a qs
  said_yes a q qs e = rw e

  pub said_no : (a : A) (q : Question A) (qs : List (Question A)) → q.yes ≡ false → first_no a (q ∷ qs) ≡ q.otherwise
  said_no a q qs e = rw e

  -- a list behind another
  pub behind : (a : A) (qs rs : List (Question A)) → first_no a (qs ++ rs) ≡ first_no (first_no a rs) qs
  behind a [] rs = refl
  behind a (q ∷ qs) rs = ap (λ (x : A). elim q.yes [ true ↦ x | false ↦ q.otherwise ]) (behind a qs rs)

-- ---- numbers

-- no question is answered no by the number 0; antt computes it of any list that is written out
abbrev pub refusing : List (Question ℕ) → Bool
refusing [] = true
refusing (q ∷ qs) = not (eqb q.otherwise 0) && refusing qs

pub refusing_both : (qs rs : List (Question ℕ)) → T (refusing qs) → T (refusing rs) → T (refusing (qs ++ rs))
refusing_both [] rs t u = u
refusing_both (q ∷ qs) rs t u = go (not (eqb q.otherwise 0)) (refusing_both qs rs) t
  where
    go : (v : Bool) → (T (refusing qs) → T (refusing rs) → T (refusing (qs ++ rs))) → T (v && refusing qs) → T (v && refusing (qs ++ rs))
    go true ih t = ih t u
    go false ih t = t

-- where all are answered yes, what follows decides
pub all_yes : (n : ℕ) (qs : List (Question ℕ)) → T (refusing qs) → number qs ≡ 0 → first_no n qs ≡ n
all_yes n [] t e = refl
all_yes n (q ∷ qs) t e = go (all_yes n qs) q.yes (eqb q.otherwise 0) refl t e
  where
    go : (T (refusing qs) → number qs ≡ 0 → first_no n qs ≡ n) → (v zero : Bool) → eqb q.otherwise 0 ≡ zero → T (not zero && refusing qs)
        → ◌≡◌ {A = ℕ} (elim v [ true ↦ number qs | false ↦ q.otherwise ]) 0 → ◌≡◌ {A = ℕ} (elim v [ true ↦ first_no n qs | false ↦ q.otherwise ]) n
    go rest v true z t e = absurd t
    go rest true false z t e = rest t e
    go rest false false z t e = absurd (true≢false (sym (eq-eqb q.otherwise 0 e) ∙ z))

-- where one is answered no, what follows does not
pub some_no : (n : ℕ) (qs : List (Question ℕ)) → eqb (number qs) 0 ≡ false → first_no n qs ≡ number qs
some_no n [] e = absurd (true≢false e)
some_no n (q ∷ qs) e = go (some_no n qs) q.yes e
  where
    go : (eqb (number qs) 0 ≡ false → first_no n qs ≡ number qs) → (v : Bool)
        → eqb (elim v [ true ↦ number qs | false ↦ q.otherwise ]) 0 ≡ false
        → ◌≡◌ {A = ℕ} (elim v [ true ↦ first_no n qs | false ↦ q.otherwise ]) (elim v [ true ↦ number qs | false ↦ q.otherwise ])
    go rest true e = rest e
    go rest false e = refl

-- where all of two lists are answered yes, all of the first are
pub both_zero : (qs rs : List (Question ℕ)) → number (qs ++ rs) ≡ 0 → number qs ≡ 0
both_zero qs rs e = go (eqb (number qs) 0) refl
  where
    go : (b : Bool) → eqb (number qs) 0 ≡ b → number qs ≡ 0
    go true q = eqb-true (number qs) 0 q
    go false q = sym (some_no (number rs) qs q) ∙ sym (behind 0 qs rs) ∙ e

-- each told with a place, or with whatever `f` adds: where all are answered yes, what follows decides; else the number decides, so told
pub decided : {B : Type 0} (f : ℕ → B) (b : B) (qs : List (Question ℕ)) → T (refusing qs) → first_no b (telling f qs) ≡ cond (eqb (number qs) 0) b (f (number qs))
decided f b [] t = refl
decided f b (q ∷ qs) t = go (decided f b qs) q.yes (eqb q.otherwise 0) refl t
  where
    go : (T (refusing qs) → first_no b (telling f qs) ≡ cond (eqb (number qs) 0) b (f (number qs))) → (v zero : Bool) → eqb q.otherwise 0 ≡ zero
        → T (not zero && refusing qs)
        → elim v [ true ↦ first_no b (telling f qs) | false ↦ f q.otherwise ]
        ≡ cond (eqb (elim v [ true ↦ number qs | false ↦ q.otherwise ]) 0) b (f (elim v [ true ↦ number qs | false ↦ q.otherwise ]))
    go rest v true z t = absurd t
    go rest true false z t = rest t
    go rest false false z t = rw z

-- questions told otherwise, and their numbers read off again
pub told_back : {B : Type 0} (g : B → ℕ) (f : ℕ → B) → ((n : ℕ) → g (f n) ≡ n) → (b : B) (qs : List (Question ℕ)) → g (first_no b (telling f qs)) ≡ first_no (g b) qs
told_back g f e b [] = refl
told_back g f e b (q ∷ qs) = go q.yes (told_back g f e b qs)
  where
    go : (v : Bool) → g (first_no b (telling f qs)) ≡ first_no (g b) qs
        → ◌≡◌ {A = ℕ} (g (elim v [ true ↦ first_no b (telling f qs) | false ↦ f q.otherwise ])) (elim v [ true ↦ first_no (g b) qs | false ↦ q.otherwise ])
    go true ih = ih
    go false ih = e q.otherwise

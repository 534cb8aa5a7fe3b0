-- Counting the lines of an answer: every one is there until the first that is not; and the text of those that were written.
use Rattle.std.proofs.Common.{◌≡◌, refl, sym, ap, ◌∙◌, subst, true≢false, List, [], ◌∷◌, ◌++◌, append_assoc, append-nil, ℕ, ◌+◌, ◌≤◌, ◌<◌, arith, length, take, drop, get_or, take-add}
use Rattle.std.proofs.Common.{inl, inr}
use Rattle.std.proofs.Math.Seq.{drop-cons}
use Rattle.std.proofs.lemmas.Bool.{cases_lt}
use Rattle.std.proofs.lemmas.Option.{slice_get_within, slice_get-get_or, get_or_from_slice_get}
use Rattle.std.specs.Prelude.{None, Some, Option, is_none, Ok, Err, Result, IsOk, OnOk}
use Rattle.std.specs.Io.KnownBytes.{Appends}
use Rattle.text_line.specs.declared.line.Text.{Text}
use Rattle.text_line.specs.Line.{text_of, fed}
use Rattle.text_line.specs.Page.{LineAt}
use Rattle.word_io.specs.Written.{lines_in, page_text}

-- as many lines are there
unfoldable pub Counted : List (List ℕ) → ℕ → Type 0
Counted page n = n ≤ length page

module _ (page : List (List ℕ)) where
  pub none_yet : Counted page 0
  unfolding Counted
  none_yet = omega arith

  pub one_more : (n : ℕ) (l : Text 256) → LineAt page n (Some l) → Counted page (n + 1)
  unfolding Counted
  one_more n l e = let h = slice_get_within page n _ (sym e) in omega arith

  pub no_more : (n : ℕ) → n < 18446744073709551615 → Counted page n → LineAt page n None → n ≡ lines_in page
  unfolding Counted lines_in
  no_more n m c e = elim (cases_lt n (length page)) [
    | inl h ↦ absurd (true≢false (ap is_none (e ∙ slice_get-get_or page n [] h)))
    | inr h ↦ omega arith
  ]

  pub counted_out : (n : ℕ) → 18446744073709551615 ≤ n → n ≤ 18446744073709551615 → Counted page n → 18446744073709551615 ≡ lines_in page
  unfolding Counted lines_in
  counted_out n l m c = omega arith

-- ---- the text of what was written

page_text-append : (a b : List (List ℕ)) → page_text (a ++ b) ≡ page_text a ++ page_text b
unfolding page_text
page_text-append [] b = refl
page_text-append (l ∷ ls) b = ap (λ (t : List ℕ). fed l ++ t) (page_text-append ls b) ∙ sym (append_assoc (fed l) (page_text ls) (page_text b))

-- nothing more
pub same_text : (held : Option (List ℕ)) → Appends held held []
same_text None = tt
same_text (Some t) = sym (append-nil t)

-- one text behind the other
joined : (a b c : Option (List ℕ)) (s t : List ℕ) → Appends a b s → Appends b c t → Appends a c (s ++ t)
joined None b c s t p q = tt
joined (Some x) None c s t p q = absurd p
joined (Some x) (Some y) None s t p q = absurd q
joined (Some x) (Some y) (Some z) s t p q = q ∙ ap (λ (u : List ℕ). u ++ t) p ∙ append_assoc x s t

pub no_text : (a : Option (List ℕ)) → Appends a a (page_text [])
unfolding page_text
no_text a = same_text a

-- the line of a number, with its line feed
pub line_fed : (page : List (List ℕ)) (n : ℕ) (l : Text 256) → LineAt page n (Some l) → fed (text_of l) ≡ fed (get_or page n [])
line_fed page n l e = ap fed (sym (get_or_from_slice_get page n (text_of l) [] (sym e)))

module _ (page : List (List ℕ)) (a b : Option (List ℕ)) where
  -- the line of a number behind those before it
  pub more_written : (c : Option (List ℕ)) (n : ℕ) (l : Text 256) → LineAt page n (Some l) → Appends a b (page_text (take n page)) → Appends b c (fed (text_of l))
      → Appends a c (page_text (take (n + 1) page))
  unfolding page_text
  more_written c n l e p q =
      let within = slice_get_within page n _ (sym e) in
      let one : page_text (take 1 (drop n page)) ≡ fed (text_of l) =
      ap (λ (r : List (List ℕ)). page_text (take 1 r)) (drop-cons page n [] within) ∙ append-nil (fed (get_or page n [])) ∙ sym (line_fed page n l e) in
      let all : page_text (take (n + 1) page) ≡ page_text (take n page) ++ fed (text_of l) =
      ap page_text (take-add n 1 page) ∙ page_text-append (take n page) (take 1 (drop n page)) ∙ ap (λ (t : List ℕ). page_text (take n page) ++ t) one in
      subst (Appends a c) (sym all) (joined a b c _ _ p q)

-- as far as 64 bits count
pub until_full : {X E : Type 0} (page : List (List ℕ)) (a b : Option (List ℕ)) (n : ℕ) (r : Result X E) → 18446744073709551615 ≤ n → n ≤ 18446744073709551615
    → OnOk r (Appends a b (page_text (take n page))) → OnOk r (Appends a b (page_text (take 18446744073709551615 page)))
until_full page a b n r l m p = let e : n ≡ 18446744073709551615 = omega arith in subst (λ (k : ℕ). OnOk r (Appends a b (page_text (take k page)))) e p

-- what always holds
pub on_ok : {X E P : Type 0} (r : Result X E) → P → OnOk r P
on_ok (Ok x) p = p
on_ok (Err e) p = tt

-- what holds where nothing failed so far, and then nothing failed
pub so_far : {X E P Q R : Type 0} (old new : Result X E) → OnOk old P → OnOk new (IsOk old) → OnOk new Q → (P → Q → R) → OnOk new R
so_far old (Err e) p k q f = tt
so_far (Ok x) (Ok y) p k q f = f p q
so_far (Err e) (Ok y) p k q f = absurd (true≢false (sym k))

-- nothing failed before
pub before_too : {X E : Type 0} (first old new : Result X E) → OnOk old (IsOk first) → OnOk new (IsOk old) → OnOk new (IsOk first)
before_too first old new p k = so_far old new p k k (λ f o. f)

pub at_first : {X E : Type 0} (r : Result X E) → OnOk r (IsOk r)
at_first (Ok x) = refl
at_first (Err e) = tt

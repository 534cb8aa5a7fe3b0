-- The walk over a text: tokens that are taken one behind the other, and what follows where all are.
use Rattle.std.proofs.Common.{◌≡◌, ℕ, suc, ◌+◌, ◌-◌, ◌<◌, ◌≤◌, List, [], ◌∷◌, ◌++◌, length, take, drop, set, sym, refl, ap, ◌∙◌, add-one, arith, length-set, take-append-drop, length-take-le, drop-drop, take-suc-set, drop-set-lt}
use Rattle.std.specs.Prelude.{Some, None, Ok, Err}
use Rattle.std.proofs.lemmas.List.{append_assoc, append-nil}
use lib.Ieee.{Float}
use Rattle.plan_text.specs.Bytes.{pieces}
use Rattle.plan_text.specs.Lines.{ends_line}
use Rattle.plan_ratios.specs.declared.RatiosError.{RatiosError}
use Rattle.plan_ratios.specs.declared.RatiosError.TheVariants.{NotARatio, TooMany, TooFew}
use Rattle.plan_ratios.specs.declared.Slots.{Slots}
use Rattle.plan_ratios.specs.Ratio.{ratio_of}
use Rattle.plan_ratios.specs.Tokens.{Token, tokens_from}
use Rattle.plan_ratios.specs.Ratios.{wanted, empty, accepted, answered, ratios_of}
use Rattle.plan_ratios.specs.Walk.{Filled, got, Passed, Refused}
use Rattle.plan_ratios.proofs.AnswerLaws.{too_few, enough, too_many, unread, read}

-- ---- the slots

emptied : (n : ℕ) → drop 1 (empty (suc n)) ≡ empty n
unfolding empty
emptied n = refl

module _ (s : Slots) (f : Filled s) where
  pub as_many : length (got s) ≡ s.count
  as_many = length-take-le s.count s.ratios (omega (arith, f.long, f.most, f.room))

  whole : got s ++ empty (64 - length (got s)) ≡ s.ratios
  whole = rw (as_many, ← f.rest) (take-append-drop s.count s.ratios)

  -- one token
  module _ (t : Token) where
    pub full_refused : s.count ≡ s.wanted → Refused (t ∷ []) s (TooMany t.line s.count)
    full_refused e = record {
      same = λ last us. too_many s.wanted last (got s) t us (omega (arith, as_many)) ∙ ap (λ (k : ℕ). Err (TooMany t.line k)) as_many;
    }

    module _ (e : s.count ≡ s.wanted → ⊥) where
      less : length (got s) < s.wanted
      less = omega (arith, as_many, f.room, e)

      pub unread_refused : ratio_of t.text ≡ None → Refused (t ∷ []) s (NotARatio t.line s.count)
      unread_refused q = record {
        same = λ last us. unread s.wanted last (got s) t us less q ∙ ap (λ (k : ℕ). Err (NotARatio t.line k)) as_many;
      }

      pub below : s.count < 64
      below = omega (arith, f.most, f.room, e)

      pub read_passed : (x : Float) (r : Slots) → ratio_of t.text ≡ Some x → r.ratios ≡ set s.ratios s.count x → r.count ≡ s.count + 1 → r.wanted ≡ s.wanted
          → Passed (t ∷ []) s r
      read_passed x r q a b c =
          let k : 64 - s.count ≡ suc (64 - (s.count + 1)) = omega (arith, below) in
          let more : take (s.count + 1) (set s.ratios s.count x) ≡ got s ++ x ∷ [] =
          rw (add-one s.count) (take-suc-set s.ratios s.count x (omega (arith, f.long, below))) in
          record {
            filled = record {
              long = ap length a ∙ length-set s.ratios s.count x ∙ f.long;
              room = omega (arith, b, c, f.room, e);
              most = omega (arith, c, f.most);
              rest = rw (a, b)
                  (drop-set-lt (s.count + 1) s.ratios s.count x (omega arith)
                  ∙ sym (drop-drop 1 s.count s.ratios)
                  ∙ ap (drop 1) (f.rest ∙ ap empty k)
                  ∙ emptied (64 - (s.count + 1)));
            };
            wanted = c;
            same = λ last us. read s.wanted last (got s) t us x less q ∙ rw (a, b, c, more) refl;
          }

-- ---- one behind the other

pub none_passed : (s : Slots) → Filled s → Passed [] s s
none_passed s f = record { filled = f; wanted = refl; same = λ last us. refl }

module _ (ts us : List Token) (a b : Slots) (p : Passed ts a b) where
  pub then_passed : (c : Slots) → Passed us b c → Passed (ts ++ us) a c
  then_passed c q = record {
    filled = q.filled;
    wanted = q.wanted ∙ p.wanted;
    same = λ last vs. ap (answered a.wanted last (got a)) (append_assoc ts us vs) ∙ p.same last (us ++ vs) ∙ q.same last vs;
  }

  pub then_refused : (e : RatiosError) → Refused us b e → Refused (ts ++ us) a e
  then_refused e q = record {
    same = λ last vs. ap (answered a.wanted last (got a)) (append_assoc ts us vs) ∙ p.same last (us ++ vs) ∙ q.same last vs;
  }

pub front_refused : (ts us : List Token) (a : Slots) (e : RatiosError) → Refused ts a e → Refused (ts ++ us) a e
front_refused ts us a e q = record {
  same = λ last vs. ap (answered a.wanted last (got a)) (append_assoc ts us vs) ∙ q.same last (us ++ vs);
}

-- ---- a whole text

pub none_filled : (slots : ℕ) (a : Slots) → a.ratios ≡ empty 64 → a.count ≡ 0 → a.wanted ≡ wanted slots → Filled a
unfolding empty
none_filled slots a r n w = record { long = rw r refl; room = omega (arith, n); most = omega (arith, w); rest = rw (r, n) refl }

module _ (text : List ℕ) (slots : ℕ) where
  abbrev lines : ℕ
  lines = length (pieces ends_line text)

  module _ (a : Slots) (ts : List Token) (all : ts ≡ tokens_from 1 text) (n : a.count ≡ 0) (w : a.wanted ≡ wanted slots) where
    begun : got a ≡ []
    begun = rw n refl

    from_first : ratios_of slots text ≡ answered a.wanted lines (got a) (ts ++ [])
    unfolding ratios_of
    from_first = rw (w, begun, all, append-nil (tokens_from 1 text)) refl

    pub text_refused : (e : RatiosError) → Refused ts a e → ratios_of slots text ≡ Err e
    text_refused e q = from_first ∙ q.same lines []

    module _ (b : Slots) (p : Passed ts a b) where
      over : ratios_of slots text ≡ answered b.wanted lines (got b) []
      over = from_first ∙ p.same lines []

      pub text_few : b.count < b.wanted → ratios_of slots text ≡ Err (TooFew lines b.count)
      text_few l =
          over ∙ too_few b.wanted lines (got b) (omega (arith, as_many b p.filled))
          ∙ ap (λ (k : ℕ). Err (TooFew lines k)) (as_many b p.filled)

      pub text_enough : b.wanted ≤ b.count → ratios_of slots text ≡ Ok (record { count = b.count; ratios = b.ratios })
      unfolding accepted
      text_enough l = over ∙ enough b.wanted lines (got b) (omega (arith, as_many b p.filled))
          ∙ ap (λ (xs : List Float). Ok (record { count = length (got b); ratios = xs })) (whole b p.filled)
          ∙ ap (λ (k : ℕ). Ok (record { count = k; ratios = b.ratios })) (as_many b p.filled)

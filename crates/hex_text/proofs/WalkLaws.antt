-- The walk over a text: what holds before each character, and what follows where it ends.
use Rattle.std.proofs.Common.{◌≡◌, refl, sym, ap, ◌∙◌, subst, ℕ, suc, ◌+◌, ◌-◌, ◌*◌, ◌≤◌, ◌<◌, Bool, true, false, cond, List, [], ◌∷◌, ◌++◌, length, get_or, take, drop, add-one, arith, drop-cons, length-append, length-drop}
use lib.ListN.{drop_of_length-le}
use Rattle.std.specs.Prelude.{Option, None, Some, Ok, Err, IfSome, Result, position}
use lib.Seq.{drop-drop}
use Rattle.std.proofs.lemmas.List.Quantifiers.{position-Some}
use Rattle.plan_text.specs.Bytes.{reach}
use Rattle.plan_text.specs.Lines.{ends_line, is_hash, is_blank}
use Rattle.plan_text.proofs.ByteLaws.{reach_some, reach_none, take_rest}
use Rattle.hex_text.specs.declared.Digits.{Digits}
use Rattle.hex_text.specs.declared.HexError.{HexError}
use Rattle.hex_text.specs.declared.HexError.TheVariants.{WrongCharacter, OddDigits}
use Rattle.hex_text.specs.Hex.{Place, digit_of, next_line, past, paired, is_odd, accepted, wrong_at, odd_on, read_from, hex_of, counted as counted_in, HexIs}
use Rattle.hex_text.specs.Walk.{Held, Put, ended, finished_as}
use Rattle.hex_text.proofs.DigitLaws.{few, odd_left, none_left}

-- ---- what an answer tells

no_bytes : (e : HexError) (b : List ℕ) → ◌≡◌ {A = Result (List ℕ) HexError} (Err e) (Ok b) → ⊥
no_bytes e b q = cc

these : (a b : List ℕ) → ◌≡◌ {A = Result (List ℕ) HexError} (Ok a) (Ok b) → a ≡ b
these a b q = cc

-- ---- the next character

-- a place before a comment
abbrev pub on_line : ℕ → ℕ → Place
on_line n k = record { line = n; column = k; comment = false }

module _ (text : List ℕ) (i n k : ℕ) (ds : List ℕ) (last : ℕ) (h : i < length text) where
  abbrev b : ℕ
  b = get_or text i 0

  line_at : ends_line b ≡ true → read_from (on_line n k) ds last (drop i text) ≡ read_from (on_line (n + 1) 0) ds last (drop (i + 1) text)
  unfolding read_from past
  line_at e = rw (add-one i, drop-cons text i 0 h, e)

  module _ (e : ends_line b ≡ false) (f : is_hash b ≡ false) where
    blank_at : is_blank b ≡ true → read_from (on_line n k) ds last (drop i text) ≡ read_from (on_line n (k + 1)) ds last (drop (i + 1) text)
    unfolding read_from past
    blank_at g = rw (add-one i, drop-cons text i 0 h, e, f, g)

    wrong_at_lem : is_blank b ≡ false → digit_of b ≡ None → read_from (on_line n k) ds last (drop i text) ≡ wrong_at (on_line n k)
    unfolding read_from
    wrong_at_lem g z = rw (drop-cons text i 0 h, e, f, g, z)

    digit_at : (d : ℕ) → is_blank b ≡ false → digit_of b ≡ Some d
        → read_from (on_line n k) ds last (drop i text) ≡ read_from (on_line n (k + 1)) (ds ++ d ∷ []) (n + 1) (drop (i + 1) text)
    unfolding read_from past
    digit_at d g z = rw (add-one i, drop-cons text i 0 h, e, f, g, z)

-- ---- a comment

module _ (ds : List ℕ) (last : ℕ) where
  -- behind its line feed, or at the end of the text
  comment_skipped : (w : List ℕ) (p : Place) → p.comment ≡ true → read_from p ds last w ≡ read_from (next_line p) ds last (drop (suc (reach ends_line w)) w)
  unfolding read_from past
  comment_skipped [] p c = refl
  comment_skipped (x ∷ bs) p c = go (ends_line x) refl (comment_skipped bs next refl)
    where
      next : Place
      next = record { line = p.line; column = p.column + 1; comment = true }

      go : (t : Bool) → ends_line x ≡ t → read_from next ds last bs ≡ read_from (next_line p) ds last (drop (suc (reach ends_line bs)) bs)
          → read_from p ds last (x ∷ bs) ≡ read_from (next_line p) ds last (drop (suc (reach ends_line (x ∷ bs))) (x ∷ bs))
      go true e q = rw e refl
      go false e q = rw (e, c) q

  -- the # is skipped in a comment as before one
  opened : (text : List ℕ) (i n k : ℕ) → i < length text → ends_line (get_or text i 0) ≡ false → is_hash (get_or text i 0) ≡ true
      → read_from (on_line n k) ds last (drop i text) ≡ read_from (record { line = n; column = k; comment = true }) ds last (drop i text)
  unfolding read_from past
  opened text i n k h e f = rw (drop-cons text i 0 h, e, f)

  module _ (text : List ℕ) (i n k : ℕ) (h : i < length text) (e : ends_line (get_or text i 0) ≡ false) (f : is_hash (get_or text i 0) ≡ true) where
    hash_at : (m : ℕ) → position ends_line (drop i text) ≡ Some m → read_from (on_line n k) ds last (drop i text) ≡ read_from (on_line (n + 1) 0) ds last (drop (i + (m + 1)) text)
    hash_at m q =
        let r : reach ends_line (drop i text) ≡ m = reach_some ends_line (drop i text) m (sym q) in
        let s : i + suc (reach ends_line (drop i text)) ≡ i + (m + 1) = omega arith in
        opened text i n k h e f
        ∙ comment_skipped (drop i text) (record { line = n; column = k; comment = true }) refl
        ∙ ap (read_from (on_line (n + 1) 0) ds last) (drop-drop (suc (reach ends_line (drop i text))) i text ∙ ap (λ (j : ℕ). drop j text) s)

    last_hash_at : position ends_line (drop i text) ≡ None → read_from (on_line n k) ds last (drop i text) ≡ read_from (on_line (n + 1) 0) ds last (drop (length text) text)
    last_hash_at q =
        let r : reach ends_line (drop i text) ≡ length (drop i text) = reach_none ends_line (drop i text) (sym q) in
        let l = length-drop i text in
        opened text i n k h e f
        ∙ comment_skipped (drop i text) (record { line = n; column = k; comment = true }) refl
        ∙ ap (read_from (on_line (n + 1) 0) ds last)
        (drop_of_length-le (drop i text) {i = suc (reach ends_line (drop i text))} (omega arith) ∙ sym (drop_of_length-le text {i = length text} (omega arith)))

end_at : (text : List ℕ) (i : ℕ) (p : Place) (ds : List ℕ) (last : ℕ) → length text ≤ i → read_from p ds last (drop i text) ≡ cond (is_odd ds) (odd_on last) (accepted (paired ds))
unfolding read_from
end_at text i p ds last h = rw (drop_of_length-le text h)

-- the first line feed from a place on, as the code looks for it
pub first_feed : (text : List ℕ) (i : ℕ) (r : Option ℕ) → r ≡ position ends_line (take (length text - i) (drop i text)) → position ends_line (drop i text) ≡ r
first_feed text i r e = ap (position ends_line) (sym (take_rest text i)) ∙ sym e

-- ---- before each character

-- the digits got are held, and the text from the place on is still to come
pub record Walked (text old buffer : List ℕ) (n k : ℕ) (d : Digits) (i : ℕ) : Type 0 where
  pub got : List ℕ
  pub held : Held got d buffer
  pub left : hex_of text ≡ read_from (on_line n k) got d.last (drop i text)
  pub few : length got ≤ i
  pub within : i ≤ length text
  pub line : n ≤ i
  pub column : k ≤ i
  pub small : IfSome d.high (λ high. high < 16)
  pub long : length buffer ≡ length old

pub at_first : (text old : List ℕ) → Walked text old old 0 0 (record { count = 0; high = None; last = 0 }) 0
unfolding hex_of
at_first text old = record {
  got = [];
  held = record { high = refl; count = refl; stored = λ l. refl };
  left = refl;
  few = omega arith;
  within = omega arith;
  line = omega arith;
  column = omega arith;
  small = tt;
  long = refl;
}

module _ (text old buffer : List ℕ) (n k : ℕ) (d : Digits) (i : ℕ) (w : Walked text old buffer n k d i) where
  -- there are half as many bytes as characters at most
  pub counted : 2 * d.count ≤ i
  counted = omega (arith, few w.got, w.held.count, w.few)

  -- at a character
  module _ (h : i < length text) where
    abbrev byte : ℕ
    byte = get_or text i 0

    pub at_line : ends_line byte ≡ true → Walked text old buffer (n + 1) 0 d (i + 1)
    at_line e = record {
      got = w.got;
      held = w.held;
      left = w.left ∙ line_at text i n k w.got d.last h e;
      few = omega (arith, w.few);
      within = omega arith;
      line = omega (arith, w.line);
      column = omega arith;
      small = w.small;
      long = w.long;
    }

    module _ (e : ends_line byte ≡ false) where
      module _ (f : is_hash byte ≡ true) where
        room : (m : ℕ) → position ends_line (drop i text) ≡ Some m → i + m < length text
        room m q = let l = (position-Some ends_line (drop i text) m 0 q).0 in omega (arith, length-drop i text)

        pub at_hash : (m : ℕ) → position ends_line (drop i text) ≡ Some m → Walked text old buffer (n + 1) 0 d (i + (m + 1))
        at_hash m q = record {
          got = w.got;
          held = w.held;
          left = w.left ∙ hash_at w.got d.last text i n k h e f m q;
          few = omega (arith, w.few);
          within = omega (arith, room m q);
          line = omega (arith, w.line);
          column = omega arith;
          small = w.small;
          long = w.long;
        }

        pub at_last_hash : position ends_line (drop i text) ≡ None → Walked text old buffer (n + 1) 0 d (length text)
        at_last_hash q = record {
          got = w.got;
          held = w.held;
          left = w.left ∙ last_hash_at w.got d.last text i n k h e f q;
          few = omega (arith, w.few);
          within = omega arith;
          line = omega (arith, w.line);
          column = omega arith;
          small = w.small;
          long = w.long;
        }

      module _ (f : is_hash byte ≡ false) where
        pub at_blank : is_blank byte ≡ true → Walked text old buffer n (k + 1) d (i + 1)
        at_blank g = record {
          got = w.got;
          held = w.held;
          left = w.left ∙ blank_at text i n k w.got d.last h e f g;
          few = omega (arith, w.few);
          within = omega arith;
          line = omega (arith, w.line);
          column = omega (arith, w.column);
          small = w.small;
          long = w.long;
        }

        pub at_digit : (x : ℕ) (new : List ℕ) (r : Digits) → is_blank byte ≡ false → digit_of byte ≡ Some x → Put d x (n + 1) buffer new r
            → Walked text old new n (k + 1) r (i + 1)
        at_digit x new r g z q = record {
          got = w.got ++ x ∷ [];
          held = q.more w.got w.held;
          left = w.left ∙ digit_at text i n k w.got d.last h e f x g z ∙ ap (λ (m : ℕ). read_from (on_line n (k + 1)) (w.got ++ x ∷ []) m (drop (i + 1) text)) (sym q.last);
          few = omega (arith, length-append w.got (x ∷ []), w.few);
          within = omega arith;
          line = omega (arith, w.line);
          column = omega (arith, w.column);
          small = q.small;
          long = q.long ∙ w.long;
        }

        pub at_wrong : is_blank byte ≡ false → digit_of byte ≡ None → HexIs text buffer (Err (WrongCharacter (n + 1) (k + 1)))
        at_wrong g z =
            let all = w.left ∙ wrong_at_lem text i n k w.got d.last h e f g z in
            record { whole = ap counted_in (sym all); bytes = λ b q l. absurd (no_bytes (WrongCharacter (n + 1) (k + 1)) b (sym all ∙ q)); few = tt }

  -- at the end of the text
  pub at_end : length text ≤ i → HexIs text buffer (finished_as d)
  at_end h = go d.high refl
    where
      all : hex_of text ≡ cond (is_odd w.got) (odd_on d.last) (accepted (paired w.got))
      all = w.left ∙ end_at text i (on_line n k) w.got d.last h

      go : (t : Option ℕ) → d.high ≡ t → HexIs text buffer (ended t d.last d.count)
      go (Some x) e =
          let odd = odd_left w.got x (sym w.held.high ∙ e) in
          let whole : hex_of text ≡ odd_on d.last = rw odd at all in
          record {
            whole = ap counted_in (sym whole);
            bytes = λ b q l. absurd (no_bytes (OddDigits d.last) b (sym whole ∙ q));
            few = tt;
          }
      go None e =
          let even = none_left w.got (sym w.held.high ∙ e) in
          let whole : hex_of text ≡ accepted (paired w.got) = rw even at all in
          record {
            whole = ap (λ (n : ℕ). Ok n) w.held.count ∙ ap counted_in (sym whole);
            bytes = λ b q.
                subst (λ (c : List ℕ). length c ≤ length buffer → take (length c) buffer ≡ c) (these (paired w.got) b (sym whole ∙ q))
                (λ l. ap (λ (n : ℕ). take n buffer) (sym w.held.count) ∙ w.held.stored (omega (arith, w.held.count)));
            few = omega (arith, counted);
          }

-- Reading into a buffer: what was taken from the reader, turn by turn.
use Rattle.std.proofs.Common.{◌≡◌, sym, ap, ◌∙◌, List, ◌++◌, append_assoc, ℕ, ◌+◌, ◌≤◌, length, take, length-take-le}
use Rattle.std.proofs.Math.Seq.{take-append-add}
use Rattle.std.proofs.lemmas.List.{take-append-le}
use Rattle.std.specs.Prelude.{None, Some, Option}
use Rattle.std.specs.Io.KnownBytes.{Consumes}
use borrow.Rule.Slice.PartMut.{put_mid, post_of}

-- what was read to a place, and what is now read behind it
pub read_on : (at k n : ℕ) (old part : List ℕ) → at ≤ length old → n ≤ length part → take (at + n) (put_mid at k old part) ≡ take at old ++ take n part
read_on at k n old part h g =
    let e : length (take at old) ≡ at = length-take-le at old h in
    ap (λ (i : ℕ). take (i + n) (put_mid at k old part)) (sym e)
    ∙ take-append-add (take at old) (part ++ post_of at k old) n
    ∙ ap (λ (t : List ℕ). take at old ++ t) (take-append-le n part (post_of at k old) g)

-- one turn behind the others
pub taken : (a b c : Option (List ℕ)) (s t : List ℕ) → Consumes a b s → Consumes b c t → Consumes a c (s ++ t)
taken None b c s t p q = tt
taken (Some x) None c s t p q = absurd p
taken (Some x) (Some y) None s t p q = absurd q
taken (Some x) (Some y) (Some z) s t p q = p ∙ ap (λ (u : List ℕ). s ++ u) q ∙ sym (append_assoc s t z)

-- Laws of the reader of bits: what is held, or it and one more byte, taken apart.
use mathlib.Core.Path.{◌≡◌, refl, sym, ap, ap₂, ◌∙◌, subst}
use mathlib.Core.Bool.{Bool, cond}
use mathlib.Core.List.{List, ◌++◌, append-nil, append_assoc}
use Prim.Native.Nat.{ℕ, ◌+◌, ◌-◌, ◌*◌, ◌/◌, ◌%◌, ◌^◌, ◌≤◌, ◌<◌}
use native.Mathlib.Nat.{lt_of_lt_of_le}
use native.Mathlib.Numerals.{add-one}
use native.Mathlib.Omega.{arith}
use lib.Arith.{digits_lt}
use lib.Dec.{lit≤}
use lib.ListN.{length, get_or, drop, drop_of_length-le, length-append, length-drop}
use lib.Pow.{pow-add, pow_mono, shr_lt}
use lib.Seq.{drop-cons}
use borrow.Author.Tests.{lt-leb}
use Rattle.bit_fields.specs.Fields.{joined, upper, lower}
use Rattle.bit_fields.proofs.FieldLaws.{joined_is, upper_is, lower_is}
use Rattle.bit_string.specs.Bits.{bits_of, front, unpacked}
use Rattle.bit_string.proofs.BitLaws.{length_bits, split, modulo, beside}
use Rattle.bit_string.proofs.PackLaws.{length_unpacked}
use Rattle.side_info_reading.specs.Taken.{got, refused, number_taken}
use Rattle.side_info_reading.proofs.TakenLaws.{number_sent}
use Rattle.side_info_reader.specs.declared.bit_reader.BitReader.TheInside.{Inside}
use Rattle.side_info_reader.specs.BitReader.{bits_ahead, Steady}

-- ---- what is held, with room for a number

pub record Ready (bytes : List ℕ) (width at held count : ℕ) (bits : List Bool) : Type 0 where
  pub enough : width ≤ count
  pub few : count < width + 8
  pub small : held < 2 ^ count
  pub taken : count ≤ 8 * at
  pub within : at ≤ length bytes
  pub same : bits_of count held ++ unpacked (drop at bytes) ≡ bits

module _ (bytes : List ℕ) (width at held count : ℕ) (bits : List Bool) (ready : Ready bytes width at held count bits) (short : width ≤ 8) where
  abbrev rest : ℕ
  rest = count - width

  rest_few : rest < 8
  rest_few = let f = ready.few in let e = ready.enough in omega arith

  all : count ≡ width + rest
  all = let e = ready.enough in omega arith

  value_is : upper held rest ≡ held / 2 ^ rest
  value_is = upper_is held rest (omega (arith, rest_few))

  left_is : lower held rest ≡ held % 2 ^ rest
  left_is = lower_is held rest (omega (arith, rest_few))

  pub number_apart : got (upper held rest) (bits_of rest (lower held rest) ++ unpacked (drop at bytes)) ≡ number_taken width bits
  number_apart =
      let v = upper held rest in
      let tail = unpacked (drop at bytes) in
      let in_two : bits_of count held ≡ bits_of width v ++ bits_of rest (lower held rest) =
      ap (λ (k : ℕ). bits_of k held) all ∙ split width rest held
      ∙ ap₂ (λ (x : ℕ) (bs : List Bool). bits_of width x ++ bs) (sym value_is) (sym (modulo rest held) ∙ ap (bits_of rest) (sym left_is)) in
      sym (number_sent width v (bits_of rest (lower held rest) ++ tail) (rw value_is (shr_lt width rest (subst (λ (k : ℕ). held < 2 ^ k) all ready.small))))
      ∙ ap (number_taken width) (sym (append_assoc (bits_of width v) (bits_of rest (lower held rest)) tail) ∙ ap (λ (bs : List Bool). bs ++ tail) (sym in_two) ∙ ready.same)

-- ---- the fields

module _ (r : Inside) (steady : Steady r) where
  -- what is held fits a byte
  held_small : r.held < 256
  held_small = lt_of_lt_of_le steady.small (pow_mono {j = 8} (let f = steady.few in omega arith))

  -- enough bits are held
  pub held_enough : (width : ℕ) → width ≤ r.count → Ready r.bytes.now width r.at r.held r.count (bits_ahead r).ahead
  unfolding bits_ahead
  held_enough width h = record { enough = h; few = let f = steady.few in omega arith; small = steady.small; taken = steady.taken; within = steady.within; same = refl }

  -- with one more byte
  pub one_byte : (width byte : ℕ) → r.count < width → width ≤ 8 → r.at < length r.bytes.now → byte ≡ get_or r.bytes.now r.at 0 → byte < 256
      → Ready r.bytes.now width (r.at + 1) (joined r.held byte 8) (r.count + 8) (bits_ahead r).ahead
  unfolding bits_ahead unpacked
  one_byte width byte less short more b small =
      let bytes = r.bytes.now in
      let held = joined r.held byte 8 in
      let held_is : held ≡ r.held * 2 ^ 8 + byte = joined_is r.held byte 8 held_small (lit≤ tt) small in
      let tail = unpacked (drop (r.at + 1) bytes) in
      let next : unpacked (drop r.at bytes) ≡ bits_of 8 byte ++ tail =
      ap unpacked (drop-cons bytes r.at 0 more) ∙ ap₂ (λ (x k : ℕ). bits_of 8 x ++ unpacked (drop k bytes)) (sym b) (sym (add-one r.at)) in
      record {
        enough = omega arith;
        few = omega arith;
        small = rw (held_is, pow-add 2 r.count 8) (digits_lt steady.small small);
        taken = let t = steady.taken in omega arith;
        within = omega arith;
        same = ap (λ (bs : List Bool). bs ++ tail) (ap (bits_of (r.count + 8)) held_is ∙ beside r.count 8 r.held byte small)
            ∙ append_assoc (bits_of r.count r.held) (bits_of 8 byte) tail
            ∙ ap (λ (bs : List Bool). bits_of r.count r.held ++ bs) (sym next);
      }

  -- no byte is left
  pub no_byte : (width : ℕ) → r.count < width → length r.bytes.now ≤ r.at → refused 9 ≡ number_taken width (bits_ahead r).ahead
  unfolding bits_ahead number_taken unpacked
  no_byte width less over =
      let bits = bits_of r.count r.held ++ unpacked (drop r.at r.bytes.now) in
      let only : bits ≡ bits_of r.count r.held =
      ap (λ (bs : List ℕ). bits_of r.count r.held ++ unpacked bs) (drop_of_length-le r.bytes.now {i = r.at} over) ∙ append-nil (bits_of r.count r.held) in
      let short : length bits < width = rw (only, length_bits r.count r.held) less in
      ap (λ (b : Bool). cond b (got (front width bits) (drop width bits)) (refused 9)) (sym (lt-leb width (length bits) short))

  -- the bits taken are those of the bytes taken, without those still held
  pub used : length (bits_ahead r).all - length (bits_ahead r).ahead + r.count ≡ 8 * r.at
  unfolding bits_ahead
  used =
      let a = length-append (bits_of r.count r.held) (unpacked (drop r.at r.bytes.now)) in
      let b = length_bits r.count r.held in
      let c = length_unpacked (drop r.at r.bytes.now) in
      let d = length-drop r.at r.bytes.now in
      let e = length_unpacked r.bytes.now in
      let w = steady.within in
      let t = steady.taken in
      omega arith

-- The order of binary64 is one that the rounds need.
use Rattle.ieee_order.proofs.Order.{float_not_le, float_lt_le, float_trans, float_lt_is}
use Rattle.allocation_rounds.proofs.Order.{Order}

pub floats : Order
floats = record {
  total = λ x y h k e. float_lt_le y x (float_not_le x y h k e);
  transitive = λ x y z h k m. float_trans x y z;
  strict = λ x y h k. float_lt_is x y h k;
}

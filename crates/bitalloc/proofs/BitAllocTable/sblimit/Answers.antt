-- `bitalloc::BitAllocTable::sblimit` meets its contract: the tables one by one.
use lib.Dec.{lit≤}
use Rattle.bitalloc.proofs.BitAllocTable.sblimit.Goals as goal

pub returns-in-B2a : goal.returns-in-B2a
returns-in-B2a c = record { whole = rw c.in-B2a.is; most = lit≤ tt }

pub returns-in-B2b : goal.returns-in-B2b
returns-in-B2b c = record { whole = rw c.in-B2b.is; most = lit≤ tt }

pub returns-in-B2c : goal.returns-in-B2c
returns-in-B2c c = record { whole = rw c.in-B2c.is; most = lit≤ tt }

pub returns-in-B2d : goal.returns-in-B2d
returns-in-B2d c = record { whole = rw c.in-B2d.is; most = lit≤ tt }

pub returns-in-B1Lsf : goal.returns-in-B1Lsf
returns-in-B1Lsf c = record { whole = rw c.in-B1Lsf.is; most = lit≤ tt }

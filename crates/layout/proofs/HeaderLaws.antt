-- The layout of a header, and the bounds of it.
use mathlib.Core.Path.{◌≡◌, ap, ◌∙◌}
use Prim.Native.Nat.{ℕ, ◌≤◌}
use native.Mathlib.Omega.{arith}
use Rattle.header.specs.declared.FrameHeader.{FrameHeader}
use Rattle.header.specs.declared.Mode.{Mode}
use Rattle.header.specs.declared.Mode.TheVariants.{Stereo, JointStereo, DualChannel, SingleChannel}
use Rattle.header.specs.Header.{bound_of, ChannelsAre}
use Rattle.bitalloc.specs.declared.BitAllocTable.{BitAllocTable}
use Rattle.bitalloc.specs.Tables.{sblimit_of}
use Rattle.layout.specs.Layout.{shared_from, layout_of}

pub bound_small : (m : Mode) (extension sblimit : ℕ) → shared_from m extension sblimit ≤ sblimit
bound_small Stereo extension sblimit = omega arith
bound_small JointStereo extension sblimit = omega arith
bound_small DualChannel extension sblimit = omega arith
bound_small SingleChannel extension sblimit = omega arith

pub laid_out : (h : FrameHeader) (t : BitAllocTable) {sblimit : ℕ} (bound channels : ℕ)
    → bound ≡ shared_from h.mode (bound_of h.mode_extension) sblimit → ChannelsAre h.mode channels → sblimit ≡ sblimit_of t
    → record { table = t; bound = bound; channels = channels } ≡ layout_of h t
unfolding layout_of
laid_out h t bound channels b c s =
    let e : bound ≡ shared_from h.mode (bound_of h.mode_extension) (sblimit_of t) = b ∙ ap (shared_from h.mode (bound_of h.mode_extension)) s in
    λ i. record { table = t; bound = e i; channels = c.whole i }

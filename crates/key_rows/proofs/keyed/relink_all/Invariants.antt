use Rattle.std.proofs.Common.{◌≡◌, length, map, take}
use Rattle.key_rows.specs.private.Chains.{member_in, AreChained}
use Rattle.key_rows.proofs.keyed.relink_all.Given as goal

abbrev pub invariant-loop-i : goal.invariant-loop-i
invariant-loop-i g l = AreChained g.T.Keyed.key_of g.K.Key.spread l.round (take l.i l.cells) l.heads
    × (map member_in l.cells ≡ map member_in l.initial.cells) × (length l.cells ≡ length l.initial.cells) × (length l.heads ≡ length l.initial.heads)

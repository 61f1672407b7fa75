use Rattle.std.proofs.Common.{◌≡◌, get_or, length, map, refl, sym, ap, ◌∙◌}
use Rattle.std.specs.Prelude.{Some, slice_get}
use Rattle.key_rows.specs.Members.{number_of}
use Rattle.std.proofs.lemmas.Option.{slice_get_read}
use Rattle.key_rows.specs.declared.keyed.Cell.{Cell}
use Rattle.key_rows.specs.private.Chains.{member_in}
use Rattle.key_rows.proofs.ChainLemmas.{chained_same, members_set}
use Rattle.key_rows.proofs.MemberLemmas.{get_member, number_written}
use Rattle.key_rows.proofs.keyed.write_member.Goals as goal

pub returns-clause-members : goal.returns-clause-members
returns-clause-members g c =
    let cells = c.args.cells.now in
    let old : Cell g.row.T.Denot = c.index-cells-k.result in
    members_set cells c.args.k (record { member = c.args.member; before = (get_or cells c.args.k old).before })

pub returns-clause-chained : goal.returns-clause-chained
returns-clause-chained g c = λ n heads chained.
    let cells = c.args.cells.now in
    let old : Cell g.row.T.Denot = c.index-cells-k.result in
    let there : slice_get cells c.args.k ≡ Some old = slice_get_read cells (length cells) c.args.k old refl c.requires.number c.index-cells-k.is in
    let new : Cell g.row.T.Denot = record { member = c.args.member; before = (get_or cells c.args.k old).before } in
    chained_same g.T.Keyed.key_of g.K.Key.spread n cells heads c.args.k old new there (c.requires.key old.member (get_member cells c.args.k old there))
    (ap (λ (z : Cell g.row.T.Denot). z.before) (sym c.index-cells-k.is)) chained

pub returns-clause-found : goal.returns-clause-found
returns-clause-found g c = λ k.
    let cells = c.args.cells.now in
    let old : Cell g.row.T.Denot = c.index-cells-k.result in
    let there : slice_get cells c.args.k ≡ Some old = slice_get_read cells (length cells) c.args.k old refl c.requires.number c.index-cells-k.is in
    let member : slice_get (map member_in cells) c.args.k ≡ Some old.member = get_member cells c.args.k old there in
    ap (number_of g.K.Ord.cmp g.T.Keyed.key_of k) (returns-clause-members g c)
    ∙ number_written g.K.Ord.cmp g.T.Keyed.key_of (map member_in cells) c.args.k old.member c.args.member member (c.requires.key old.member member) k

use Rattle.std.proofs.Common.{◌≡◌, ◌+◌, take, set, get_or, length, refl, sym, ap, ◌∙◌, arith}
use Rattle.std.specs.Prelude.{Some, slice_get}
use Rattle.std.proofs.lemmas.List.{length-take-le, take_more_set}
use Rattle.std.proofs.lemmas.Option.{same_Some, slice_get_read}
use Rattle.key_rows.specs.declared.keyed.Cell.{Cell}
use Rattle.key_rows.specs.private.Chains.{chain_of}
use Rattle.key_rows.proofs.ChainLemmas.{chained_row, members_same}
use Rattle.key_rows.proofs.keyed.relink.Goals as goal

pub returns-clause-chained : goal.returns-clause-chained
returns-clause-chained g c =
    let cells = c.args.cells.now in
    let i = c.args.i in
    let x : Cell g.row.T.Denot = c.index-cells-i.result in
    let y : Cell g.row.T.Denot = c.index-cells-i-2.result in
    let new : Cell g.row.T.Denot = record { member = (get_or cells i y).member; before = c.replace_end-before.result } in
    let first : slice_get cells i ≡ Some x = slice_get_read cells (length cells) i x refl c.requires.number c.index-cells-i.is in
    let second : slice_get cells i ≡ Some y = slice_get_read cells (length cells) i y refl c.requires.number c.index-cells-i-2.is in
    let same : x ≡ y = same_Some x y (sym first ∙ second) in
    let key : c.key.result ≡ g.T.Keyed.key_of new.member =
    c.key.ensures ∙ ap (λ (z : Cell g.row.T.Denot). g.T.Keyed.key_of z.member) (sym c.index-cells-i.is ∙ same ∙ c.index-cells-i-2.is) in
    chained_row g.T.Keyed.key_of g.K.Key.spread c.args.round (take i cells) c.args.heads.now c.requires.chained new
    c.chain_of-chain.result i (take (i + 1) (set cells i new)) c.replace_end-before.new.heads
    (c.chain_of-chain.ensures.is ∙ ap (chain_of g.K.Key.spread c.args.round (length c.args.heads.now)) key)
    c.chain_of-chain.ensures.within c.replace_end-before.ensures.before
    (sym (length-take-le i cells (omega (arith, c.requires.number)))) c.replace_end-before.ensures.after
    (take_more_set cells i new c.requires.number)

pub returns-clause-members : goal.returns-clause-members
returns-clause-members g c =
    let cells = c.args.cells.now in
    let y : Cell g.row.T.Denot = c.index-cells-i-2.result in
    let new : Cell g.row.T.Denot = record { member = (get_or cells c.args.i y).member; before = c.replace_end-before.result } in
    members_same cells c.args.i y new (slice_get_read cells (length cells) c.args.i y refl c.requires.number c.index-cells-i-2.is)
    (ap (λ (z : Cell g.row.T.Denot). z.member) (sym c.index-cells-i-2.is))

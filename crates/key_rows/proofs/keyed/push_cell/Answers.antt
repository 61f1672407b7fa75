use Rattle.std.proofs.Common.{◌≡◌, ◌++◌, ◌∷◌, [], map, length, ap, ◌∙◌, arith}
use Rattle.std.specs.Prelude.{Some, vec_len}
use Rattle.key_rows.specs.Members.{number_of}
use Rattle.std.proofs.lemmas.List.{length-map, map-append}
use Rattle.key_rows.specs.private.Chains.{member_in}
use Rattle.key_rows.proofs.MemberLemmas.{number_pushed}
use Rattle.key_rows.proofs.ChainLemmas.{chained_row}
use Rattle.key_rows.proofs.keyed.push_cell.Goals as goal

pub returns-clause-chained : goal.returns-clause-chained
returns-clause-chained g c =
    let count : c.len.result ≡ length c.args.cells.now.items = omega (arith, c.len.ensures, c.args.cells.now.ok) in
    chained_row g.T.Keyed.key_of g.K.Key.spread c.args.round c.args.cells.now.items c.args.heads.now c.requires.chained
    (record { member = c.args.member; before = c.replace_end-before.result })
    c.args.chain c.len.result c.push_reserved.new.self.items c.replace_end-before.new.heads
    c.requires.chain.is c.requires.chain.within c.replace_end-before.ensures.before count c.replace_end-before.ensures.after c.push_reserved.ensures.items

pub returns-clause-found : goal.returns-clause-found
returns-clause-found g c =
    let old = map member_in c.args.cells.now.items in
    let members : map member_in c.push_reserved.new.self.items ≡ old ++ c.args.member ∷ [] = ap (map member_in) c.push_reserved.ensures.items ∙ map-append member_in c.args.cells.now.items _ in
    let count : length old ≡ vec_len c.args.cells.now = omega (arith, length-map c.args.cells.now.items member_in, c.args.cells.now.ok) in
    ap (number_of g.K.Ord.cmp g.T.Keyed.key_of (g.T.Keyed.key_of c.args.member)) members
    ∙ number_pushed g.K.Ord.cmp g.T.Keyed.key_of g.met.K.Ord.total old c.args.member ∙ ap Some count

use Rattle.std.proofs.Common.{◌≡◌, ◌<◌, ◌++◌, ℕ, List, length, get_or, sym, ap, ◌∙◌, arith}
use Rattle.std.specs.Prelude.{Some, slice_get, option_to_list}
use Rattle.std.proofs.lemmas.Option.{slice_get-get_or}
use Rattle.witness_graph.specs.declared.node.Node.{Node}
use Rattle.witness_graph.specs.declared.node.Node.TheVariants.{Start, Lower}
use Rattle.witness_graph.specs.declared.listing.Listing.{Listing}
use Rattle.witness_graph.specs.Nodes.{EachNamed}
use Rattle.witness_graph.specs.Runs.{runs_of, part_runs, rule_runs, parts_runs}
use Rattle.witness_graph.proofs.CallerLemmas.{each_earlier}
use Rattle.report_text.specs.declared.beginning.Beginning.{Beginning}
use Rattle.report_text.proofs.OpeningLemmas.{opens_fewer, opened_empty, opened_lower, named_within, on_ok}
use Rattle.report_text.proofs.opening.open_node.Goals as goal

-- the node that is read
is_at : (l : Listing) (read : List Node) (k : ℕ) (n : Node) → k < length l.nodes → read ≡ l.nodes → get_or read k Start ≡ n → slice_get l.nodes k ≡ Some n
is_at l read k n within same is = slice_get-get_or l.nodes k Start within ∙ ap Some (ap (λ ns. get_or ns k Start) (sym same) ∙ is)

-- the nodes that it names
names : (l : Listing) (k : ℕ) (n : Node) → slice_get l.nodes k ≡ Some n → EachNamed (λ j. j < k) n
names l k n at = each_earlier k n (l.is_listing.all.each k n at).orderly

pub returns-in_default : goal.returns-in_default
returns-in_default c =
    let l = c.args.listing.now in
    let k = c.args.number in
    let law = c.runs_are_those_of_parts.ensures in
    opened_empty (length c.args.totals.now) (runs_of l.side l.nodes) k c.args.stack.now.items c.push.new.self.items c.args.begun
    (law.start l.side l.nodes k l.is_listing.all (is_at l c.as_slice.result.now k Start c.requires.number c.as_slice.ensures c.in_default.is))
    c.requires.within c.in_ok-push.ensures.items

pub earlier-requires-clause-before : goal.earlier-requires-clause-before
earlier-requires-clause-before c =
    let l = c.args.listing.now in
    let k = c.args.number in
    let node = Lower c.in-Lower.before c.in-Lower.rule c.in-Lower.first c.in-Lower.second in
    let at = is_at l c.as_slice.result.now k node c.requires.number c.as_slice.ensures c.in-Lower.is in
    named_within c.in-Lower.before k (length c.args.totals.now) (omega (arith, c.requires.number, c.requires.len)) (names l k node at).0

pub put_parts-requires-clause-first : goal.put_parts-requires-clause-first
put_parts-requires-clause-first c =
    let l = c.args.listing.now in
    let k = c.args.number in
    let node = Lower c.in-Lower.before c.in-Lower.rule c.in-Lower.first c.in-Lower.second in
    let at = is_at l c.as_slice.result.now k node c.requires.number c.as_slice.ensures c.in-Lower.is in
    named_within c.in-Lower.first k (length c.args.totals.now) (omega (arith, c.requires.number, c.requires.len)) (names l k node at).1

pub put_parts-requires-clause-second : goal.put_parts-requires-clause-second
put_parts-requires-clause-second c =
    let l = c.args.listing.now in
    let k = c.args.number in
    let node = Lower c.in-Lower.before c.in-Lower.rule c.in-Lower.first c.in-Lower.second in
    let at = is_at l c.as_slice.result.now k node c.requires.number c.as_slice.ensures c.in-Lower.is in
    named_within c.in-Lower.second k (length c.args.totals.now) (omega (arith, c.requires.number, c.requires.len)) (names l k node at).2

pub returns : goal.returns
returns c =
    let l = c.args.listing.now in
    let k = c.args.number in
    let n = length c.args.totals.now in
    let known = runs_of l.side l.nodes in
    let law = c.runs_are_those_of_parts.ensures in
    let before = c.in-Lower.before in
    let rule = c.in-Lower.rule in
    let first = c.in-Lower.first in
    let second = c.in-Lower.second in
    let node = Lower before rule first second in
    let at = is_at l c.as_slice.result.now k node c.requires.number c.as_slice.ensures c.in-Lower.is in
    let named = names l k node at in
    let xs = parts_runs l.side (rule_runs rule) (part_runs known first) (part_runs known second) in
    on_ok c.push_some.result
    (λ (e : c.push_some.new.stack.items ≡ c.push-2.new.self.items ++ option_to_list c.in_ok-earlier.earlier).
    opened_lower n known k before first second xs c.args.stack.now.items c.push_some.new.stack.items c.args.begun c.put_parts.new.self c.in_ok-earlier.earlier
    (law.lower l.side l.nodes k before rule first second l.is_listing.all at)
    (opens_fewer k before first second named.0 named.1 named.2)
    c.in_ok-put_parts.ensures.rules
    (c.in_ok-put_parts.ensures.parts known c.requires.counted)
    (c.in_ok-earlier.ensures known c.requires.counted)
    (e ∙ ap (λ (s : List Beginning). s ++ option_to_list c.in_ok-earlier.earlier) c.in_ok-push-2.ensures.items)
    c.requires.within)
    c.push_some.ensures

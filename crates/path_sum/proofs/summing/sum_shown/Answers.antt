use Rattle.std.proofs.Common.{length, refl, sym, ap, ◌∙◌, subst}
use Rattle.weighted_automata.specs.Entries.{entry_at}
use Rattle.saturation_laws.specs.Openings.{AreKept}
use Rattle.saturation_laws.specs.States.{weight_at}
use Rattle.path_sum.specs.Sums.{answer_place, ways_of}
use Rattle.path_sum.specs.declared.answer.Answer.{Answer}
use Rattle.path_sum.specs.Answers.{IsListingOf}
use Rattle.path_sum.specs.private.Growing.{IsListedOver, BeginsBehind, state_of}
use Rattle.path_sum.proofs.AddedLemmas.{grown_begins}
use Rattle.witness_graph.specs.Nodes.{Nodes}
use Rattle.path_sum.proofs.FinishedLemmas.{kept_at, answer_sums}
use Rattle.path_sum.proofs.summing.sum_shown.Goals as goal

pub weight_now-requires : goal.weight_now-requires
weight_now-requires g c =
    let p = c.args.system.now in
    let d = c.args.direction.now in
    let valid = c.semiring-semiring.ensures.valid in
    let sums = g.met.D.Direction.sums d p c.args.opening.now valid c.requires.automaton.fits in
    let walked = c.in_ok-sum.ensures.walked in
    let kept = kept_at g.S.Semiring.laws valid c.requires.automaton sums c.args.pattern.now c.requires.pattern (state_of c.in_ok-sum.sum) walked.under_way in
    let n = length c.in_ok-sum.sum.nodes.nodes in
    let over = subst (λ m. AreKept (g.S.Semiring.operations m) c.in_ok-sum.sum.pairs.transitions n) (sym c.semiring-semiring.ensures.value) kept in
    (n, subst (λ ts. AreKept (g.S.Semiring.operations c.semiring-semiring.result.now) ts n) (sym c.list.ensures) over)

pub list_answer-requires : goal.list_answer-requires
list_answer-requires g c =
    let p = c.args.system.now in
    let d = c.args.direction.now in
    let valid = c.semiring-semiring.ensures.valid in
    let sums = g.met.D.Direction.sums d p c.args.opening.now valid c.requires.automaton.fits in
    let walked = c.in_ok-sum.ensures.walked in
    record {
      kept = (
        g.S.Semiring.operations p.semiring,
        kept_at g.S.Semiring.laws valid c.requires.automaton sums c.args.pattern.now c.requires.pattern (state_of c.in_ok-sum.sum) walked.under_way,
      );
      begins =
          subst (λ (v : Nodes). BeginsBehind v.nodes c.in_ok-sum.sum.nodes.nodes) (sym c.in_ok-sum.ensures.graph)
          (grown_begins (g.S.Semiring.operations p.semiring) (g.D.Direction.way.tables d p).side c.args.opening.now c.args.transitions.now.transitions
          (ways_of c.args.pattern.now) c.args.graph.now.nodes (state_of c.in_ok-sum.sum) walked.under_way.grown);
    }

pub returns : goal.returns
returns g c =
    let p = c.args.system.now in
    let d = c.args.direction.now in
    let valid = c.semiring-semiring.ensures.valid in
    let sums = g.met.D.Direction.sums d p c.args.opening.now valid c.requires.automaton.fits in
    let sum = c.in_ok-sum.sum in
    let walked = c.in_ok-sum.ensures.walked in
    let value = c.in_ok-value.ensures ∙ ap (weight_at (g.S.Semiring.operations c.semiring-semiring.result.now) answer_place) c.list.ensures
    ∙ ap (λ m. weight_at (g.S.Semiring.operations m) answer_place sum.pairs.transitions) c.semiring-semiring.ensures.value in
    let answer = entry_at answer_place sum.pairs.transitions in
    let made = c.in_ok-listing.ensures in
    let over = subst (λ (v : Nodes). IsListedOver (record { graph = v; nodes = sum.nodes.nodes }) answer made.0) c.in_ok-sum.ensures.graph made.1 in
    let listing = subst (λ sd. IsListingOf sd c.args.graph.now.nodes over.0 answer made.0) c.requires.side over.2 in
    let a : Answer _ _ _ = record { value = c.in_ok-value.value; listing = made.0 } in (
      a,
      answer_sums g.S.Semiring.laws valid c.requires.automaton sums c.args.pattern.now c.requires.pattern
          (state_of sum) walked.under_way walked.ended a value over.0 over.1 listing,
      record {
        value = refl;
        whole = λ asked. ap (λ l. let shown : Answer _ _ _ = record { value = c.in_ok-value.value; listing = l } in shown) (made.2 asked);
      },
    )

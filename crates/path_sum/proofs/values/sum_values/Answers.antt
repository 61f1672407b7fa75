use Rattle.std.proofs.Common.{map, sym, ap, ◌∙◌, subst, length}
use Rattle.std.proofs.lemmas.List.Elements.{recursion_from_All}
use Rattle.std.proofs.lemmas.Result.{IfOk-weaker}
use Rattle.saturation_laws.specs.Openings.{AreKept}
use Rattle.path_sum.specs.Values.{IsSaturatedTo, AreValuesTo}
use Rattle.path_sum.specs.private.Ends.{total_to}
use Rattle.path_sum.specs.private.Growing.{state_of}
use Rattle.path_sum.proofs.EndsLemmas.{all_values}
use Rattle.path_sum.proofs.FinishedLemmas.{kept_at}
use Rattle.path_sum.proofs.values.sum_values.Goals as goal

pub totals_to-requires : goal.totals_to-requires
totals_to-requires g c =
    let p = c.args.system.now in
    let valid = c.semiring.ensures.valid in
    let sums = g.met.D.Direction.sums c.args.direction.now p c.args.opening.now valid c.requires.automaton.fits in
    let kept = kept_at g.S.Semiring.laws valid c.requires.automaton sums c.args.pattern.now c.requires.pattern (state_of c.in_ok-sum.sum) c.in_ok-sum.ensures.walked.under_way in
    let n = length c.in_ok-sum.sum.nodes.nodes in (
      n,
      subst (λ m. AreKept (g.S.Semiring.operations m) c.list.result.now.transitions n) (sym c.semiring.ensures.value)
          (subst (λ ts. AreKept (g.S.Semiring.operations p.semiring) ts n) (sym c.list.ensures) kept),
    )

pub returns : goal.returns
returns g c =
    let p = c.args.system.now in
    let d = c.args.direction.now in
    let o = c.args.opening.now in
    let ts = c.args.transitions.now.transitions in
    let nodes = c.args.graph.now.nodes in
    let pattern = c.args.pattern.now in
    let sets = c.args.finals.now in
    let st = state_of c.in_ok-sum.sum in
    let valid = c.semiring.ensures.valid in
    let values = all_values g.S.Semiring.operations g.S.Semiring.laws g.D.Direction.way p valid d (λ u fits. g.met.D.Direction.sums d p u valid fits)
    o ts nodes c.requires.automaton c.requires.bare pattern c.requires.pattern st c.in_ok-sum.ensures.walked
    sets (recursion_from_All (IsSaturatedTo g.S.Semiring.operations g.D.Direction.way p d o ts nodes) sets c.requires.each) in
    let ends = c.deref.ensures.value ∙ c.in_ok-ends.ensures in
    IfOk-weaker c.totals_to.result _ _ (λ vs is.
    subst (AreValuesTo g.S.Semiring.operations g.D.Direction.way p d o pattern sets)
    (sym (is ∙ ap (λ m. map (total_to (g.S.Semiring.operations m) c.list.result.now.transitions c.deref.result.now) sets) c.semiring.ensures.value
    ∙ ap (λ us. map (total_to (g.S.Semiring.operations p.semiring) us c.deref.result.now) sets) c.list.ensures
    ∙ ap (λ es. map (total_to (g.S.Semiring.operations p.semiring) st.transitions es) sets) ends)) values) c.totals_to.ensures

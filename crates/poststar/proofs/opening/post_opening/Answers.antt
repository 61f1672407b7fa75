use Rattle.std.proofs.Common.{◌≡◌, ℕ, ◌≤◌, true, length, sym, ap, subst, ◌∙◌}
use Rattle.wpds_base.specs.Limits.{most_items}
use Rattle.witness_graph.specs.declared.node.Side.TheVariants.{Post as PostSide}
use Rattle.config_patterns.specs.Membership.{PatternValue}
use Rattle.saturation_laws.specs.declared.opening.Opening.{Opening}
use Rattle.saturation_laws.specs.Openings.{opening_state}
use Rattle.pattern_openings.specs.PatternOpenings.{opening_of}
use Rattle.poststar_laws.specs.Fitting.{fits_post}
use Rattle.std.proofs.lemmas.Result.{IfOk-weaker}
use Rattle.poststar.proofs.FitLemmas.{pattern_fits}
use Rattle.poststar.proofs.opening.post_opening.Goals as goal

pub open-requires : goal.open-requires
open-requires g c =
    let p = c.args.system.now in
    let start : PatternValue = c.args.start.now in
    let e = c.in_ok-opening.ensures ∙ ap (λ n. opening_of n start) c.controls.ensures.value in
    let P : ℕ → Opening → Type 0 = λ n o. fits_post n p o ≡ true in
    let n : length start.items ≡ c.items.result = sym c.items.ensures.value in
    let Q : ℕ → Type 0 = λ m. P m (opening_of p.controls start) in
    let few = c.items.ensures.limit in
    let IsFew : ℕ → Type 0 = λ m. m ≤ most_items in
    subst (P c.items.result) (sym e) (subst Q n (pattern_fits p start c.requires (subst IsFew c.items.ensures.value few)))

pub returns-clause-opening : goal.returns-clause-opening
returns-clause-opening g c =
    let start : PatternValue = c.args.start.now in
    let e = c.in_ok-opening.ensures ∙ ap (λ n. opening_of n start) c.controls.ensures.value in
    IfOk-weaker c.open.result _ _ (λ b is. ap (λ x. x.opening) is ∙ e) c.open.ensures

pub returns-clause-state : goal.returns-clause-state
returns-clause-state g c =
    let p = c.args.system.now in
    let start : PatternValue = c.args.start.now in
    let e = c.in_ok-opening.ensures ∙ ap (λ n. opening_of n start) c.controls.ensures.value in
    IfOk-weaker c.open.result _ _ (λ b is. ap (λ x. x.state) is ∙ ap (λ (o : Opening). opening_state (g.S.Semiring.operations p.semiring) PostSide p o.edges) e) c.open.ensures

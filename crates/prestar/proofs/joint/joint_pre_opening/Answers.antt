use Rattle.std.proofs.Common.{◌≡◌, ◌∙◌, true, sym, ap, subst}
use Rattle.pattern_openings.specs.JointOpenings.{joint_edges, edges_alone}
use Rattle.prestar_laws.specs.Fitting.{fits_pre}
use Rattle.prestar.proofs.FitLemmas.{joint_fits}
use Rattle.prestar.proofs.joint.joint_pre_opening.Goals as goal

pub open-requires : goal.open-requires
open-requires g c =
    let p = c.args.system.now in
    let targets = c.args.targets.now in
    let e = c.in_ok-joint.ensures.edges ∙ ap (λ n. joint_edges n targets) c.controls.ensures.value in
    subst (λ edges. fits_pre p (edges_alone edges) ≡ true) (sym e) (joint_fits p targets c.requires.controls)

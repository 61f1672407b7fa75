use Rattle.pattern_openings.proofs.JointLemmas.{joint_edge}
use Rattle.pattern_openings.proofs.laws.joint_edges_lead_to_items.Goals as goal

pub returns : goal.returns
returns c = joint_edge

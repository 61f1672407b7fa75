use Rattle.std.proofs.Common.{◌-◌, ap, ◌∙◌, arith}
use Rattle.std.specs.Vec.{vec_len}
use Rattle.witness_graph.specs.private.Paging.{page_size, mark_at}
use Rattle.witness_graph.proofs.PageLemmas.{marks_made}
use Rattle.witness_graph.proofs.places.Page.open.Goals as goal

pub returns-in_ok-resize-clause-same : goal.returns-in_ok-resize-clause-same
returns-in_ok-resize-clause-same c = λ i.
    marks_made c.self.inside.marks.items c.resize.new.self.items (page_size - vec_len c.self.inside.marks) i (omega arith) c.in_ok-resize.ensures.items
    ∙ ap (λ marks. mark_at marks i) c.self.view_is

use Rattle.std.proofs.Common.{◌≡◌, ◌<◌, List, Bool, true, false, length, sym, ap, ◌∙◌, subst, arith}
use Rattle.std.specs.Prelude.{slice_index_or}
use Rattle.std.proofs.lemmas.List.{length-set}
use Rattle.saturation_core.specs.private.Numbers.{AreMarked, has_number}
use Rattle.saturation_core.proofs.NumberLemmas.{marked_push}
use Rattle.saturation_core.proofs.number_queue.NumberQueue.enqueue.Goals as goal

pub invariant_of-self : goal.invariant_of-self
invariant_of-self c =
    let read : slice_index_or c.self.inside.waits.items c.args.k false ≡ false =
    ap (λ (ws : List Bool). slice_index_or ws c.args.k false) (sym c.deref.ensures.value) ∙ sym c.is_marked.ensures ∙ c.if-is_marked.false in
    let absent : has_number c.args.k c.self.inside.numbers.items ≡ false = sym (c.self.invariant.0.marks c.args.k) ∙ read in
    let within : c.args.k < length c.self.inside.waits.items = let e = ap (λ v. v.marks) c.self.view_is in omega (arith, e, c.requires.mark) in
    let long = ap length c.set_mark.ensures in (
      subst (λ q. AreMarked q c.set_mark.new.waits.items) (sym c.push_back_reserved.ensures.items)
          (subst (AreMarked _) (sym c.set_mark.ensures) (marked_push c.args.k c.self.inside.numbers.items c.self.inside.waits.items c.self.invariant.0 within absent)),
      omega (arith, long, length-set c.self.inside.waits.items c.args.k true, c.self.invariant.1),
    )

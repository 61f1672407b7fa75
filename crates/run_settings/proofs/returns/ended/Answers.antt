use Rattle.std.proofs.Common.{sym, subst}
use Rattle.std.proofs.lemmas.Result.{IfOk-weaker}
use Rattle.diagram_store.specs.Meaning.{bits_of}
use Rattle.relation_picks.specs.Picks.{HasBits}
use Rattle.run_settings.specs.Settings.{slot_at}
use Rattle.run_settings.proofs.SlotLemmas.{returned_by, back_of, restored_by}
use Rattle.run_settings.proofs.returns.ended.Goals as goal

pub pick_end-requires-clause-there : goal.pick_end-requires-clause-there
pick_end-requires-clause-there c =
    let h = c.args.map.now in
    let x = bits_of c.args.caller.now in
    let b = bits_of c.args.behind.now in
    let z = returned_by c.args.n (c.weights_are_sets_of_pairs.ensures.after c.args.n) h c.args.value.now c.requires.map c.requires.value x b c.requires.joins in (
      z.0,
      z.1,
      subst (λ l. HasBits l z.0) (sym c.deref.ensures.value) ((c.in_ok-wanted.ensures.bits z.0).1 (λ k below. back_of (slot_at h k) k x z.0 (b k) (z.2 k below))),
    )

pub returns-clause-restored : goal.returns-clause-restored
returns-clause-restored c =
    let h = c.args.map.now in
    let x = bits_of c.args.caller.now in
    let b = bits_of c.args.behind.now in
    let z = returned_by c.args.n (c.weights_are_sets_of_pairs.ensures.after c.args.n) h c.args.value.now c.requires.map c.requires.value x b c.requires.joins in
    IfOk-weaker c.pick_end.result _ _ (λ e has k below.
    restored_by (slot_at h k) k x z.0 (bits_of e) (b k) (z.2 k below)
    ((c.in_ok-wanted.ensures.bits (bits_of e)).0 (subst (λ l. HasBits l (bits_of e)) c.deref.ensures.value has) k below)) c.pick_end.ensures.bits

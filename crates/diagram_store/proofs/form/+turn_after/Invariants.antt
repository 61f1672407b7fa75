use Rattle.diagram_store.proofs.form.+turn_after.Given as goal

abbrev pub decreases-turn_after : goal.decreases-turn_after
decreases-turn_after l = l.reference

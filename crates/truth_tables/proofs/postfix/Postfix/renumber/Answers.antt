use Rattle.std.proofs.Common.{◌≡◌, ℕ, map, length, drop, ap, sym, ◌∙◌}
use Rattle.std.specs.Prelude.{slice_index_or}
use Rattle.std.proofs.lemmas.List.{length-map, take_at}
use Rattle.truth_tables.specs.Formulas.{renamed}
use Rattle.truth_tables.specs.Postfix.{built, part_renamed}
use Rattle.truth_tables.proofs.PostfixLemmas.{all_renamed}
use Rattle.truth_tables.proofs.postfix.Postfix.renumber.Goals as goal

pub returns : goal.returns
returns c =
    let number : ℕ → ℕ = λ k. slice_index_or c.args.numbers.now k 0 in
    let old = c.self.inside.parts in
    let new = c.renumber_parts.new.parts in
    let is : new ≡ map (part_renamed number) old.items = c.renumber_parts.ensures ∙ ap (map (part_renamed number)) c.deref_mut.ensures.value in
    let long : length new ≡ old.len = ap length is ∙ length-map old.items (part_renamed number) ∙ sym old.ok.0 in
    ap built (take_at new (drop (length new) old.items) old.len long) ∙ all_renamed number old.items new is ∙ ap (map (renamed number)) c.self.view_is

use Rattle.std.proofs.Common.{◌≡◌, ◌∙◌, ap, sym, subst, map, [], inl, inr}
use Rattle.std.specs.String.{string_bytes}
use Rattle.clap.specs.Words.{is_simple, is_simple_and_free, matches_of, fault_of, kind_of, IsAmong}
use Rattle.command_words.specs.Commands.{command, asked_instead}
use Rattle.command_words.proofs.CommandLemmas.{simple, free, asked_with, asked_without}
use Rattle.command_words.proofs.reading.read_words.Goals as goal

pub returns-in-Ok : goal.returns-in-Ok
returns-in-Ok c =
    let is = c.in_ok-command.ensures in
    let words = map string_bytes c.args.words.now in
    let rows = (c.in-Ok.ensures.matches (ap is_simple is ∙ simple)).0 ∙ ap (λ a. matches_of a words) is in
    let none : fault_of command words ≡ [] = ap (λ a. fault_of a words) (sym is) ∙ c.in-Ok.ensures.kinds (ap is_simple_and_free is ∙ free) in
    record {
      request = c.asked.ensures.request ∙ asked_with _ words rows none;
      within = c.asked.ensures.within;
    }

pub returns : goal.returns
returns c =
    let is = c.in_ok-command.ensures in
    let words = map string_bytes c.args.words.now in
    let kind = kind_of c.in-Err.error in
    record {
      within = c.asked_instead.ensures.within;
      request = elim (c.in-Err.ensures.kinds (ap is_simple_and_free is ∙ free)) [
        | inl memory ↦ absurd (c.in_default.not-OutOfMemory (c.kind.ensures ∙ memory))
        | inr among ↦
            c.asked_instead.ensures.request ∙ ap asked_instead c.kind.ensures
            ∙ asked_without kind words (subst (λ a. IsAmong kind (fault_of a words)) is among)
      ];
    }

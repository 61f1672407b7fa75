-- The answer to a ladder that the program makes for itself.
use Rattle.std.specs.Prelude.{◌≡◌, ℕ, List, [], ◌∷◌, ◌++◌, Option, length, codes, decimal}
use Rattle.semiring_laws.specs.declared.reach.NoMap.{NoMap}
use Rattle.cost_weights.specs.Cost.{cost_operations}
use Rattle.document_systems.specs.Weights.{cost_kind}
use Rattle.document_systems.specs.Systems.{system_of, side_of}
use Rattle.path_sum.specs.declared.answer.Answer.{Answer}
use Rattle.query_answers.specs.Answering.{IsAnswer}
use Rattle.ladder.specs.Ladders.{ladder_document, ladder_cap, question}
use Rattle.command_words.specs.declared.options.Generation.{Generation}

-- the line of a ladder of so many rungs and rules
abbrev pub ladder_line : ℕ → ℕ → List ℕ → List ℕ
ladder_line rungs rules value =
    codes "gen " ++ decimal rungs ++ codes ": " ++ decimal rules ++ codes " rules, value " ++ value ++ 10 ∷ []

-- The line tells an answer to the ladder's query over its system, by the direction and the workers that are asked for.
pub record IsLadderAnswer (g : Generation) (text : List ℕ) : Type 0 where
  pub answer : Answer ℕ (Option ℕ) NoMap
  pub is_answer : let d = ladder_document g.rungs in
      IsAnswer cost_operations (system_of cost_kind ladder_cap d) g.by g.workers (side_of d question.from) (side_of d question.to) answer
  pub told : let d = ladder_document g.rungs in
      text ≡ ladder_line g.rungs (length d.rules) (cost_kind.written ladder_cap [] answer.value)

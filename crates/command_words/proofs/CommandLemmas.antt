-- What the command gives for words.
use Rattle.std.proofs.Common.{◌≡◌, ◌∙◌, refl, sym, ap, true, List, []}
use Rattle.clap.specs.Words.{Row, Text, Shape, IsAmong, built, is_simple, is_simple_and_free, fault_of, matches_of}
use Rattle.clap.specs.declared.error.kind.ErrorKind.{ErrorKind}
use Rattle.command_words.specs.Commands.{command, asked, asked_by, asked_instead, request_of}
use Rattle.command_words.proofs.OneFault.{the_kind, one_fault}

pub simple : is_simple command ≡ true
simple = refl

pub free : is_simple_and_free command ≡ true
free = refl

-- what `clap` makes of the command, which has no subcommands
abbrev shape : Shape
shape = (built command).top

alone : built command ≡ record { top = shape; subs = [] }
alone = refl

leaf : shape.is_leaf ≡ true
leaf = refl

pub asked_with : (rows : List Row) (words : List Text) → rows ≡ matches_of command words → fault_of command words ≡ [] → asked rows ≡ request_of words
asked_with rows words same none = ap asked same ∙ ap (λ ks. asked_by ks (matches_of command words)) (sym none)

pub asked_without : (x : ErrorKind) (words : List Text) → IsAmong x (fault_of command words) → asked_instead x ≡ request_of words
asked_without x words among =
    let one = the_kind x (fault_of command words) (one_fault command shape words alone leaf) among in
    ap asked_instead one.2 ∙ ap (λ ks. asked_by ks (matches_of command words)) (sym one.1)

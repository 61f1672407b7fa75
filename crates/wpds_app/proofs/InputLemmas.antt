-- An input is accepted or refused, and not both.
use Rattle.std.proofs.Common.{◌≡◌, inl, inr, ℕ, Bool, true, false, List, [], ◌∷◌, refl, sym, ◌∙◌}
use Rattle.std.specs.Prelude.{Ok, Option, None, Some, option_map, option_and_then, unwrap_or}
use Rattle.wpds_port.specs.declared.Word.{Word}
use Rattle.wpds_port.specs.declared.refusal.Refusal.{Refusal}
use Rattle.wpds_port.specs.declared.refusal.Kind.TheVariants.{Header}
use Rattle.wpds_port.specs.declared.refusal.ReadFault.{ReadFault as ReadFaultValue}
use Rattle.wpds_port.specs.declared.refusal.ReadFault.TheVariants.{Refused, Memory}
use Rattle.document_forms.specs.Documents.{Document, reads_as}
use Rattle.document_forms.specs.FirstRefusal.{Counted, FirstRefusal as FirstSystemRefusal, AreAccepted, all_symbols, counted_lines, is_header_line, missing}
use Rattle.document_forms.specs.Forms.{is_header}
use Rattle.document_forms.specs.Languages.{language_named, language_on}
use Rattle.document_forms.specs.declared.language.Language.TheVariants.{System as SystemLanguage, Program as ProgramLanguage}
use Rattle.wpds_app.specs.declared.input.Input.{Input}
use Rattle.wpds_app.specs.declared.input.Input.TheVariants.{System, Program}
use Rattle.boolean_programs.specs.declared.program.Program.{Program as ProgramValue}
use Rattle.program_forms.specs.FirstRefusal.{FirstRefusal as FirstProgramRefusal}
use Rattle.program_forms.specs.Programs.{read_as}
use Rattle.wpds_app.specs.Running.{Means, IsProgram, IsRefused, IsUnread}

-- no input is both
abbrev pub NeverBoth : Type 0
NeverBoth = (input : List ℕ) (meaning : Input) (r : Refusal) → Means input meaning → IsRefused input r → ⊥

-- ---- a document that is read begins with the header of a system

named : (o : Option (List Word)) → unwrap_or (option_map is_header o) false ≡ true → option_and_then language_named o ≡ Some SystemLanguage
named None is = cc
named (Some ws) is = let header : is_header ws ≡ true = is in rw header refl

first_named : (all : ℕ) (ls : List Counted) → AreAccepted all ls → missing ls ≡ None → language_on ls ≡ Some SystemLanguage
first_named all [] accepted whole = cc
first_named all (h ∷ ls) accepted whole = named h.words (go (is_header_line h) refl)
  where
    go : (b : Bool) → is_header_line h ≡ b → is_header_line h ≡ true
    go true is = is
    go false is = absurd (accepted [] h ls refl Header (rw is (inr (inl refl))))

no_program : (input : List ℕ) (d : Document) → reads_as input d → IsProgram input → ⊥
no_program input d is program =
    let system = first_named (all_symbols (counted_lines input)) (counted_lines input) is.accepted is.whole in
    let both : Some SystemLanguage ≡ Some ProgramLanguage = sym system ∙ program.1 in
    cc

-- by the laws on documents and on programs
pub never_both : ((bytes : List ℕ) (d : Document) (r : Refusal) → reads_as bytes d → FirstSystemRefusal bytes r → ⊥)
    → ((bytes : List ℕ) (p : ProgramValue) (r : Refusal) → read_as bytes ≡ Ok p → FirstProgramRefusal bytes r → ⊥) → NeverBoth
never_both documents programs input (System d) r means (inl program) = no_program input d means program.0
never_both documents programs input (System d) r means (inr system) = documents input d r means system.1
never_both documents programs input (Program p) r means (inl program) = programs input p r means.1 program.1
never_both documents programs input (Program p) r means (inr system) = system.0 means.0

-- ---- why an input is not read

pub unread_program : (input : List ℕ) (fault : ReadFaultValue) → IsProgram input → ((r : Refusal) → fault ≡ Refused r → FirstProgramRefusal input r) → IsUnread input fault
unread_program input (Refused r) program refused = inl (program, refused r refl)
unread_program input Memory program refused = tt

pub unread : (input : List ℕ) (fault : ReadFaultValue) → (IsProgram input → ⊥) → ((r : Refusal) → fault ≡ Refused r → FirstSystemRefusal input r) → IsUnread input fault
unread input (Refused r) system refused = inr (system, refused r refl)
unread input Memory system refused = tt

-- What a run of the program reads and writes.
use Rattle.std.specs.Prelude.{◌≡◌, ℕ, ◌+◌, ◌<◌, ◌≤◌, ◌⊎◌, ◌↔◌, IsTrue, List, [], ◌∷◌, ◌++◌, Option, None, Some, Ok, length}
use Rattle.std.specs.Io.KnownBytes.{Appends, Consumes, IsAtEnd}
use Rattle.wpds_port.specs.Writing.{AppendsPart}
use Rattle.wpds_port.specs.Refusals.{refusal_text}
use Rattle.wpds_port.specs.declared.refusal.Refusal.{Refusal}
use Rattle.document_forms.specs.Documents.{reads_as}
use Rattle.document_forms.specs.FirstRefusal.{FirstRefusal as FirstSystemRefusal, is_short}
use Rattle.document_forms.specs.Languages.{language_of}
use Rattle.document_forms.specs.declared.language.Language.TheVariants.{Program as ProgramLanguage}
use Rattle.program_forms.specs.FirstRefusal.{FirstRefusal as FirstProgramRefusal}
use Rattle.program_forms.specs.Programs.{read_as}
use Rattle.wpds_port.specs.declared.refusal.ReadFault.{ReadFault as ReadFaultValue}
use Rattle.wpds_port.specs.declared.refusal.ReadFault.TheVariants.{Refused, Memory}
use Rattle.wpds_base.specs.Limits.{most_bytes}
use Rattle.command_words.specs.Commands.{request_of}
use Rattle.command_words.specs.declared.options.Request.{Request}
use Rattle.command_words.specs.declared.options.Request.TheVariants.{Help, Version, Check, Generate}
use Rattle.wpds_app.specs.Commands.{usage_text, help_text, version_text}
use Rattle.wpds_app.specs.Generating.{IsLadderAnswer}
use Rattle.program_reports.specs.ProgramReports.{IsProgramReport}
use Rattle.wpds_app.specs.Reports.{IsReport}
use Rattle.wpds_app.specs.declared.input.Input.{Input}
use Rattle.wpds_app.specs.declared.input.Input.TheVariants.{System, Program}
use Rattle.report_text.specs.declared.options.Options.{Options}
use Rattle.wpds_app.specs.declared.status.Status.{Status}
use Rattle.wpds_app.specs.declared.status.Status.TheVariants.{Answered, WordsRefused, ReadFault, WriteFault, DocumentRefused, OutOfMemory}

-- The input is all that was left, or its first bytes, one more than a document has.
pub record IsInput (left_before left_now : Option (List ℕ)) (input : List ℕ) : Type 0 where
  pub consumed : Consumes left_before left_now input
  pub limit : length input ≤ most_bytes + 1
  pub whole : length input < most_bytes + 1 → IsAtEnd left_now

-- the input is a program, by its header
abbrev pub IsProgram : List ℕ → Type 0
IsProgram input = IsTrue (is_short input) × (language_of input ≡ Some ProgramLanguage)

-- what an input means that is read
abbrev pub Means : List ℕ → Input → Type 0
Means input (System d) = reads_as input d
Means input (Program p) = IsProgram input × (read_as input ≡ Ok p)

-- what is refused as a program
abbrev pub IsRefusedProgram : List ℕ → Refusal → Type 0
IsRefusedProgram input r = IsProgram input × FirstProgramRefusal input r

-- what is refused as a system
abbrev pub IsRefusedSystem : List ℕ → Refusal → Type 0
IsRefusedSystem input r = (IsProgram input → ⊥) × FirstSystemRefusal input r

-- the refusal of an input
abbrev pub IsRefused : List ℕ → Refusal → Type 0
IsRefused input r = IsRefusedProgram input r ⊎ IsRefusedSystem input r

-- why an input is not read: it is refused, or memory was short
abbrev pub IsUnread : List ℕ → ReadFaultValue → Type 0
IsUnread input (Refused r) = IsRefused input r
IsUnread input Memory = Unit {0}

-- the report on an input
abbrev pub IsReportOn : Options → Input → List ℕ → Type 0
IsReportOn options (System d) report = IsReport options d report
IsReportOn options (Program p) report = IsProgramReport options p report

-- the reply to an input
abbrev pub IsReply : List ℕ → Options → Status → List ℕ → Type 0
IsReply input options Answered text = (meaning : Input) × Means input meaning × IsReportOn options meaning text
IsReply input options DocumentRefused text = (r : Refusal) × IsRefused input r × (text ≡ refusal_text r ++ 10 ∷ [])
IsReply input options WordsRefused text = ⊥
IsReply input options ReadFault text = ⊥
IsReply input options WriteFault text = ⊥
IsReply input options OutOfMemory text = ⊥

-- An input was read, and this is the reply to it.
pub record HasReply (left_before left_now : Option (List ℕ)) (options : Options) (status : Status) (text : List ℕ) : Type 0 where
  pub input : List ℕ
  pub read : IsInput left_before left_now input
  pub reply : IsReply input options status text

-- How the program ends and what is written, if no fault of the sink comes.
abbrev pub IsOutcome : Option Request → (left_before left_now : Option (List ℕ)) → Status → List ℕ → Type 0
IsOutcome None left_before left_now status text = (status ≡ WordsRefused) × (text ≡ usage_text)
IsOutcome (Some Help) left_before left_now status text = (status ≡ Answered) × (text ≡ help_text)
IsOutcome (Some Version) left_before left_now status text = (status ≡ Answered) × (text ≡ version_text)
IsOutcome (Some (Check options)) left_before left_now status text = HasReply left_before left_now options status text
IsOutcome (Some (Generate g)) left_before left_now status text = (status ≡ Answered) × IsLadderAnswer g text

-- What the words ask for was done, and all of it is written.
pub record Replies (words : List (List ℕ)) (left_before left_now written_before written_now : Option (List ℕ)) (status : Status) : Type 0 where
  pub text : List ℕ
  pub outcome : IsOutcome (request_of words) left_before left_now status text
  pub written : Appends written_before written_now text

-- A beginning of it was written.
pub record IsCutShort (words : List (List ℕ)) (left_before left_now written_before written_now : Option (List ℕ)) : Type 0 where
  pub status : Status
  pub text : List ℕ
  pub outcome : IsOutcome (request_of words) left_before left_now status text
  pub written : AppendsPart written_before written_now text

-- the program did what the words ask for
abbrev pub IsDecided : Status → Type 0
IsDecided status = (status ≡ Answered) ⊎ (status ≡ DocumentRefused)

-- the reply is that of this input: those that mean something are answered, and all others refused
pub record IsDecidedBy (input : List ℕ) (status : Status) : Type 0 where
  pub answered : (status ≡ Answered) ↔ ((meaning : Input) × Means input meaning)
  pub refused : (status ≡ DocumentRefused) ↔ ((r : Refusal) × IsRefused input r)

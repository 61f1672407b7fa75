-- Where the lines of a program stand: in which procedure, and in which open blocks.
use Rattle.std.specs.Prelude.{ℕ, ◌+◌, Bool, true, false, ◌&&◌, if◌then◌else◌, List, [], ◌∷◌, Option, Some, None, option_map, option_and_then, unwrap_or, Result, Ok, Err, filter_map}
use Rattle.wpds_port.specs.declared.Kind.{Kind}
use Rattle.wpds_port.specs.declared.Kind.TheVariants.{NotText, Form}
use Rattle.wpds_port.specs.Words.{text_words}
use Rattle.document_forms.specs.Lines.{Line, is_text}
use Rattle.boolean_programs.specs.Structure.{Block, InIf, InElse, InWhile, is_if}
use Rattle.program_forms.specs.Forms.{StatementForm, IfForm, WhileForm, LineForm, GlobalForm, ProcForm, LocalForm, Stating, ElseForm, EndForm, QueryForm, form_of, is_header}

-- ---- a line by itself

-- A line that counts: its number, whether it is text, whether its words are the header, and the
-- form that they have.
pub record Said : Type 0 where
  pub number : ℕ
  pub text : Bool
  pub header : Bool
  pub form : Option LineForm

abbrev pub said : Line → Said
said l =
    let words = text_words l.bytes in
    record {
      number = l.number;
      text = is_text l.bytes;
      header = unwrap_or (option_map is_header words) false;
      form = option_and_then form_of words;
    }

-- ---- places

-- Where a line stands, by the lines above it.
pub record Place : Type 0 where
  -- how many `proc` lines stand above
  pub begun : ℕ
  -- in a procedure, the last that began
  pub inside : Bool
  -- directly behind `proc` or `local`
  pub heading : Bool
  -- the open blocks, the newest first
  pub blocks : List Block

abbrev pub at_top : Place
at_top = record { begun = 0; inside = false; heading = false; blocks = [] }

-- the newest open block is an `if` without `else` so far
abbrev pub is_in_if : List Block → Bool
is_in_if [] = false
is_in_if (b ∷ bs) = is_if b

-- A line of this form may stand at the place.
abbrev pub fits : Place → LineForm → Bool
fits p (GlobalForm xs) = if p.inside then false else true
fits p (ProcForm f ps n) = true
fits p (LocalForm xs) = p.inside && p.heading
fits p (Stating l s) = p.inside
fits p ElseForm = p.inside && is_in_if p.blocks
fits p EndForm = p.inside
fits p (QueryForm fails l) = if p.inside then false else true

-- ---- the place behind a line that fits

abbrev pub within : Place → List Block → Place
within p blocks = record { begun = p.begun; inside = true; heading = false; blocks = blocks }

abbrev pub opened : StatementForm → List Block → List Block
opened (IfForm c) bs = InIf ∷ bs
opened (WhileForm c) bs = InWhile ∷ bs
opened s bs = bs

abbrev pub turned : List Block → List Block
turned [] = []
turned (b ∷ bs) = InElse ∷ bs

-- an `end` closes the newest open block, and without one the procedure
abbrev pub ended : Place → List Block → Place
ended p [] = record { begun = p.begun; inside = false; heading = false; blocks = [] }
ended p (b ∷ bs) = within p bs

abbrev pub next_place : Place → LineForm → Place
next_place p (GlobalForm xs) = p
next_place p (ProcForm f ps n) =
    record { begun = p.begun + 1; inside = true; heading = true; blocks = [] }
next_place p (LocalForm xs) = p
next_place p (Stating l s) = within p (opened s p.blocks)
next_place p ElseForm = within p (turned p.blocks)
next_place p EndForm = ended p p.blocks
next_place p (QueryForm fails l) = p

-- ---- the lines behind the header, each with its place

-- a line with a form, where it may stand
pub record Stated : Type 0 where
  pub number : ℕ
  pub form : LineForm
  pub place : Place

-- a line that may stand, or the number and the kind of one that is refused for itself or for its
-- place
abbrev pub Judged : Type 0
Judged = Result Stated (ℕ × Kind)

abbrev pub judged_form : Place → ℕ → Option LineForm → Judged
judged_form p n None = Err (n, Form)
judged_form p n (Some f) =
    if fits p f then Ok (record { number = n; form = f; place = p }) else Err (n, Form)

abbrev pub judged : Place → Said → Judged
judged p l = if l.text then judged_form p l.number l.form else Err (l.number, NotText)

-- a refused line opens and closes nothing
abbrev pub place_behind : Place → Judged → Place
place_behind p (Ok l) = next_place p l.form
place_behind p (Err r) = p

abbrev pub judged_from : Place → List Said → List Judged
judged_from p [] = []
judged_from p (l ∷ ls) =
    let j = judged p l in
    j ∷ judged_from (place_behind p j) ls

abbrev pub stated_of : Judged → Option Stated
stated_of (Ok l) = Some l
stated_of (Err r) = None

-- the lines that declare something: those that are not refused for themselves or for their place
abbrev pub stated : List Judged → List Stated
stated js = filter_map stated_of js

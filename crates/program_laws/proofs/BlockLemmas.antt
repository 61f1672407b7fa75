-- The blocks of each procedure nest: the open blocks at a line are the stack that nesting keeps.
use Rattle.std.proofs.Common.{◌≡◌, ℕ, List, [], ◌∷◌, ◌++◌, None, Option, refl, ap, ◌∙◌, append_assoc}
use Rattle.std.specs.Prelude.{IsTrue}
use Rattle.boolean_programs.specs.declared.program.Proc.{Proc}
use Rattle.boolean_programs.specs.declared.program.BodyLine.{BodyLine}
use Rattle.boolean_programs.specs.declared.statement.Statement.TheVariants.{Else, EndProc}
use Rattle.boolean_programs.specs.Lists.{Each}
use Rattle.boolean_programs.specs.Structure.{Block, InIf, InElse, InWhile, nested}
use Rattle.program_forms.specs.Forms.{StatementForm, SkipForm, AssignForm, GotoForm, AssumeForm, AssertForm, CallForm, ReturnForm, IfForm, WhileForm}
use Rattle.program_forms.specs.Places.{Stated, opened}
use Rattle.program_forms.specs.Declared.{Whole}
use Rattle.program_forms.specs.Above.{own_names}
use Rattle.program_forms.specs.Programs.{statement_value, end_of, body_line, with_body}
use Rattle.program_laws.proofs.ListLemmas.{each_more}
use Rattle.program_laws.proofs.WalkLemmas.{Keeps}

-- Behind these lines of a procedure these blocks are open.
abbrev pub Leaves : List BodyLine → List Block → Type 0
Leaves ls blocks = (ms : List BodyLine) → nested [] (ls ++ ms) ≡ nested blocks ms

abbrev pub IsNested : Proc → Type 0
IsNested q = IsTrue (nested [] q.body)

abbrev pub AreNested : ℕ → List Stated → List Proc → Type 0
AreNested n above qs = Each IsNested qs

abbrev pub AreNestedBut : ℕ → List Stated → List Block → List Proc → Proc → Type 0
AreNestedBut n above blocks done last = Each IsNested done × Leaves last.body blocks

-- with a line more
leaves_more : (ls : List BodyLine) (bs cs : List Block) (l : BodyLine) → Leaves ls bs → ((ms : List BodyLine) → nested bs (l ∷ ms) ≡ nested cs ms) → Leaves (ls ++ l ∷ []) cs
leaves_more ls bs cs l before here ms = ap (nested []) (append_assoc ls (l ∷ []) ms) ∙ before (l ∷ ms) ∙ here ms

stating : (w : Whole) (names : List (List ℕ)) (s : StatementForm) (n : ℕ) (label : Option (List ℕ)) (bs : List Block) (ms : List BodyLine)
    → nested bs (body_line n label (statement_value w names s) ++ ms) ≡ nested (opened s bs) ms
stating w names SkipForm n label bs ms = refl
stating w names (AssignForm xs vs) n label bs ms = refl
stating w names (GotoForm xs) n label bs ms = refl
stating w names (AssumeForm e) n label bs ms = refl
stating w names (AssertForm e) n label bs ms = refl
stating w names (CallForm xs f vs) n label bs ms = refl
stating w names (ReturnForm vs) n label bs ms = refl
stating w names (IfForm c) n label bs ms = refl
stating w names (WhileForm c) n label bs ms = refl

closing : (b : Block) (bs : List Block) (n : ℕ) (ms : List BodyLine) → nested (b ∷ bs) (body_line n None (end_of (b ∷ bs)) ++ ms) ≡ nested bs ms
closing InIf bs n ms = refl
closing InElse bs n ms = refl
closing InWhile bs n ms = refl

pub blocks_nest : (w : Whole) → Keeps w AreNested AreNestedBut
blocks_nest w = record {
  outer = λ n above p qs m f a o c x. x;
  begin = λ n above p qs m g ps k a c x. (x, λ ms. refl);
  name = λ n above p done last m xs a o e x. x;
  say = λ n above p done last m label s a o x. (
    x.0,
    leaves_more last.body p.blocks (opened s p.blocks) (record { line = m; label = label; statement = statement_value w (w.globals ++ own_names above) s }) x.1 (λ ms. stating w (w.globals ++ own_names above) s m label p.blocks ms),
  );
  turn = λ n above p done last m bs a o x. (x.0, leaves_more last.body (InIf ∷ bs) (InElse ∷ bs) (record { line = m; label = None; statement = Else }) x.1 (λ ms. refl));
  close = λ n above p done last m b bs a o x. (x.0, leaves_more last.body (b ∷ bs) bs (record { line = m; label = None; statement = end_of (b ∷ bs) }) x.1 (λ ms. closing b bs m ms));
  end = λ n above p done last m a o x. each_more IsNested done (with_body (body_line m None EndProc) last) x.0 (x.1 (body_line m None EndProc));
}

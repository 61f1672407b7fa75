-- A walk down or up the lines of a body keeps the open blocks.
use Rattle.std.proofs.Common.{◌≡◌, ℕ, zero, suc, List, [], ◌∷◌, drop, refl, ◌∙◌}
use Rattle.boolean_programs.specs.declared.program.BodyLine.{BodyLine}
use Rattle.boolean_programs.specs.declared.statement.Statement.{Statement}
use Rattle.boolean_programs.specs.declared.statement.Statement.TheVariants.{Skip, Assign, Goto, Assume, Assert, Call, Return, If, Else, While, EndIf, EndWhile, EndProc}
use Rattle.boolean_programs.specs.declared.statement.Bracket.{Bracket}
use Rattle.boolean_programs.specs.declared.statement.Bracket.TheVariants.{Opens, Parts, Closes, Inside}
use Rattle.boolean_programs.specs.Lines.{bracket, first_line, behind_end, behind_else, opened_at, other_line}
use Rattle.line_jumps.specs.declared.blocks.Ends.{Ends}
use Rattle.line_jumps.specs.private.Blocks.{opened_by, passed_down, AreOpened, end_at, else_at, passed_up, AreEnds, ahead_by, ahead_of, other_by}

opened_dropped : (ns : List ℕ) (d : ℕ) → opened_by (drop 1 ns) d ≡ opened_by ns (suc d)
opened_dropped [] d = refl
opened_dropped (n ∷ ns) d = refl

end_dropped : (es : List Ends) (d : ℕ) → end_at (drop 1 es) d ≡ end_at es (suc d)
end_dropped [] d = refl
end_dropped (e ∷ es) d = refl

else_dropped : (es : List Ends) (d : ℕ) → else_at (drop 1 es) d ≡ else_at es (suc d)
else_dropped [] d = refl
else_dropped (e ∷ es) d = refl

opened_by_bracket : (b : Bracket) (n : ℕ) (ns : List ℕ) (above : List BodyLine) → AreOpened ns above → (d : ℕ)
    → opened_by (passed_down b n ns) d ≡ elim b [
      | Opens ↦ elim d [ zero ↦ n | suc e ↦ opened_at e above ]
      | Parts ↦ opened_at d above
      | Closes ↦ opened_at (suc d) above
      | Inside ↦ opened_at d above
    ]
opened_by_bracket Opens n ns above are zero = refl
opened_by_bracket Opens n ns above are (suc d) = are d
opened_by_bracket Parts n ns above are d = are d
opened_by_bracket Closes n ns above are d = opened_dropped ns d ∙ are (suc d)
opened_by_bracket Inside n ns above are d = are d

-- the open blocks below a line more
pub opened_more : (l : BodyLine) (ns : List ℕ) (above : List BodyLine) → AreOpened ns above → AreOpened (passed_down (bracket l.statement) l.line ns) (l ∷ above)
opened_more l ns above are = λ d. opened_by_bracket (bracket l.statement) l.line ns above are d

end_by_bracket : (b : Bracket) (es : List Ends) (below : List BodyLine) → AreEnds es below → (d : ℕ)
    → end_at (passed_up b (first_line below) es) d ≡ first_line (elim b [
      | Opens ↦ behind_end (suc d) below
      | Parts ↦ behind_end d below
      | Closes ↦ elim d [ zero ↦ below | suc e ↦ behind_end e below ]
      | Inside ↦ behind_end d below
    ])
end_by_bracket Opens es below are d = end_dropped es d ∙ (are (suc d)).0
end_by_bracket Parts es below are zero = (are 0).0
end_by_bracket Parts es below are (suc d) = end_dropped es d ∙ (are (suc d)).0
end_by_bracket Closes es below are zero = refl
end_by_bracket Closes es below are (suc d) = (are d).0
end_by_bracket Inside es below are d = (are d).0

else_by_bracket : (b : Bracket) (es : List Ends) (below : List BodyLine) → AreEnds es below → (d : ℕ)
    → else_at (passed_up b (first_line below) es) d ≡ first_line (elim b [
      | Opens ↦ behind_else (suc d) below
      | Parts ↦ elim d [ zero ↦ below | suc e ↦ behind_else (suc e) below ]
      | Closes ↦ elim d [ zero ↦ below | suc e ↦ behind_else e below ]
      | Inside ↦ behind_else d below
    ])
else_by_bracket Opens es below are d = else_dropped es d ∙ (are (suc d)).1
else_by_bracket Parts es below are zero = refl
else_by_bracket Parts es below are (suc d) = else_dropped es d ∙ (are (suc d)).1
else_by_bracket Closes es below are zero = refl
else_by_bracket Closes es below are (suc d) = (are d).1
else_by_bracket Inside es below are d = (are d).1

-- the open blocks above a line more
pub ends_more : (l : BodyLine) (es : List Ends) (below : List BodyLine) → AreEnds es below → AreEnds (passed_up (bracket l.statement) (first_line below) es) (l ∷ below)
ends_more l es below are = λ d. (end_by_bracket (bracket l.statement) es below are d, else_by_bracket (bracket l.statement) es below are d)

pub ahead_is : (s : Statement) (es : List Ends) (below : List BodyLine) → AreEnds es below → ahead_by s es ≡ ahead_of s below
ahead_is (If c) es below are = (are 0).1
ahead_is Else es below are = (are 0).0
ahead_is (While c) es below are = (are 0).0
ahead_is Skip es below are = refl
ahead_is (Assign ts vs) es below are = refl
ahead_is (Goto ns) es below are = refl
ahead_is (Assume e) es below are = refl
ahead_is (Assert e) es below are = refl
ahead_is (Call ts callee vs) es below are = refl
ahead_is (Return vs) es below are = refl
ahead_is EndIf es below are = refl
ahead_is EndWhile es below are = refl
ahead_is EndProc es below are = refl

pub other_is : (s : Statement) (ns : List ℕ) (above below : List BodyLine) → AreOpened ns above → other_by s (ahead_of s below) ns ≡ other_line above s below
other_is (If c) ns above below are = refl
other_is Else ns above below are = refl
other_is (While c) ns above below are = refl
other_is Skip ns above below are = refl
other_is (Assign ts vs) ns above below are = refl
other_is (Goto is) ns above below are = refl
other_is (Assume e) ns above below are = refl
other_is (Assert e) ns above below are = refl
other_is (Call ts callee vs) ns above below are = refl
other_is (Return vs) ns above below are = refl
other_is EndIf ns above below are = refl
other_is EndWhile ns above below are = are 0
other_is EndProc ns above below are = refl

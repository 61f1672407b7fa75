-- Procedures that are read line by line.
use Rattle.std.proofs.Common.{◌≡◌, List, [], ◌∷◌, ◌++◌, map, refl, sym, ap, ◌∙◌}
use Rattle.std.proofs.lemmas.List.{map_push}
use Rattle.boolean_programs.specs.declared.program.Proc.{Proc}
use Rattle.program_forms.specs.Programs.{on_last}
use Rattle.boolean_syntax.specs.declared.procs.OpenProc.{OpenProc}
use Rattle.boolean_syntax.specs.private.Opened.{proc_now}

on_last_push : (f : Proc → Proc) (qs : List Proc) (q : Proc) → on_last f (qs ++ q ∷ []) ≡ qs ++ f q ∷ []
on_last_push f [] q = refl
on_last_push f (r ∷ []) q = refl
on_last_push f (r ∷ s ∷ qs) q = ap (λ l. r ∷ l) (on_last_push f (s ∷ qs) q)

-- the last one is changed
pub last_changed : (f : Proc → Proc) (old rest new : List OpenProc) (p q : OpenProc) → old ≡ rest ++ p ∷ [] → new ≡ rest ++ q ∷ [] → proc_now q ≡ f (proc_now p)
    → map proc_now new ≡ on_last f (map proc_now old)
last_changed f old rest new p q o n e =
    ap (map proc_now) n ∙ map_push proc_now rest q ∙ ap (λ x. map proc_now rest ++ x ∷ []) e
    ∙ sym (on_last_push f (map proc_now rest) (proc_now p))
    ∙ sym (ap (on_last f) (ap (map proc_now) o ∙ map_push proc_now rest p))

-- there is none
pub none_changed : (f : Proc → Proc) (old new : List OpenProc) → old ≡ [] → new ≡ [] → map proc_now new ≡ on_last f (map proc_now old)
none_changed f old new o n = ap (map proc_now) n ∙ sym (ap (λ l. on_last f (map proc_now l)) o)

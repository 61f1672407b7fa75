-- The signs of a weight, read one by one.
use Rattle.std.proofs.Common.{◌≡◌, List, [], ◌∷◌, ◌++◌, Option, None, Some, refl, sym, ap, ◌∙◌, append_assoc, append-nil}
use Rattle.std.specs.Prelude.{option_map}
use Rattle.wpds_port.specs.declared.Word.{Word}
use Rattle.document_forms.specs.Weights.{SignForm, SignsForm, genkill_of, signs}
use Rattle.rule_reader.specs.private.FactReads.{some_signs}

pub all_signs : (ws : List Word) → genkill_of ws ≡ option_map (λ more. SignsForm ([] ++ more)) (some_signs ws)
all_signs [] = refl
all_signs (w ∷ ws) = refl

pub signs_more : (ws left rest : List Word) (done : List SignForm) (s : SignForm)
    → genkill_of ws ≡ option_map (λ more. SignsForm (done ++ more)) (some_signs left)
    → some_signs left ≡ option_map (λ ss. s ∷ ss) (signs rest)
    → genkill_of ws ≡ option_map (λ more. SignsForm ((done ++ s ∷ []) ++ more)) (signs rest)
signs_more ws left rest done s e n = e ∙ ap (option_map (λ more. SignsForm (done ++ more))) n ∙ go (signs rest)
  where
    go : (o : Option (List SignForm)) → option_map (λ more. SignsForm (done ++ more)) (option_map (λ ss. s ∷ ss) o) ≡ option_map (λ more. SignsForm ((done ++ s ∷ []) ++ more)) o
    go None = refl
    go (Some ss) = ap (λ l. Some (SignsForm l)) (sym (append_assoc done (s ∷ []) ss))

pub signs_end : (ws left rest : List Word) (done : List SignForm) (s : SignForm)
    → genkill_of ws ≡ option_map (λ more. SignsForm (done ++ more)) (some_signs left)
    → some_signs left ≡ option_map (λ ss. s ∷ ss) (signs rest) → rest ≡ []
    → genkill_of ws ≡ Some (SignsForm (done ++ s ∷ []))
signs_end ws left rest done s e n z =
    signs_more ws left rest done s e n
    ∙ ap (λ l. option_map (λ more. SignsForm ((done ++ s ∷ []) ++ more)) (signs l)) z
    ∙ ap (λ l. Some (SignsForm l)) (append-nil (done ++ s ∷ []))

pub signs_go_on : (ws left rest : List Word) (done : List SignForm) (s : SignForm) (w : Word) (more : List Word)
    → genkill_of ws ≡ option_map (λ more. SignsForm (done ++ more)) (some_signs left)
    → some_signs left ≡ option_map (λ ss. s ∷ ss) (signs rest) → rest ≡ w ∷ more
    → genkill_of ws ≡ option_map (λ more. SignsForm ((done ++ s ∷ []) ++ more)) (some_signs rest)
signs_go_on ws left rest done s w more e n z =
    signs_more ws left rest done s e n
    ∙ ap (option_map (λ more. SignsForm ((done ++ s ∷ []) ++ more))) (ap signs z ∙ sym (ap some_signs z))

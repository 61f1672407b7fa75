use Rattle.std.proofs.Common.{◌≡◌, ◌||◌, ◌&&◌, ◌+◌, ◌∷◌, ◌++◌, [], not, length, sym, ap, ap₂, ◌∙◌, refl, subst}
use Rattle.std.specs.Prelude.{nat_lt, ◌==◌}
use Rattle.wpds_base.specs.Faults.{first_fault}
use Rattle.wpds_base.specs.Limits.{most_related}
use Rattle.wpds_base.specs.Lists.{IsOnce}
use Rattle.wpds_port.specs.declared.Kind.TheVariants.{Twice, Arity, TooWide}
use Rattle.document_forms.specs.Names.{has_twice, once}
use Rattle.rule_reader.proofs.CallerLemmas.{seen_more}
use Rattle.program_forms.specs.Kinds.{has_known, is_main}
use Rattle.program_forms.specs.FirstRefusal.{kind_below}
use Rattle.program_tables.proofs.CallerLemmas.{params_names}
use Rattle.boolean_syntax.proofs.DeclarationLemmas.{proc_kind_is}
use Rattle.boolean_syntax.proofs.KindLemmas.{none_holds, none_repeated}
use Rattle.boolean_syntax.proofs.NameLemmas.{names_joined}
use Rattle.boolean_syntax.proofs.ReadLemmas.{proc_taken, proc_with}
use Rattle.boolean_syntax.proofs.declarations.take_proc.Goals as goal

pub returns-in-Some : goal.returns-in-Some
returns-in-Some c = λ w above l ps t h said e.
    let old = c.args.reading.now in
    let name = c.args.name.now in
    let n = c.args.returns in
    let names = c.add_names.new.table in
    let globals : c.in_ok-names.names ≡ w.globals = c.in_ok-names.ensures ∙ t.globals in
    let once_each : IsOnce w.globals = subst IsOnce t.globals c.stands_once.ensures in
    let same = params_names c.args.params.now ps said in
    let twice : c.in_ok-repeated.repeated ≡ (has_twice ps || has_known w.globals ps) =
    c.in_ok-repeated.ensures.twice ∙ ap₂ (λ known xs. has_twice xs || has_known known xs) globals same in
    let then : names ≡ once (w.globals ++ ps) =
    c.in_ok-repeated.ensures.names ∙ ap₂ (λ known xs. once (known ++ xs)) globals same in
    let told : c.proc_kind.result ≡ kind_below w above l =
    c.proc_kind.ensures
    ∙ ap (λ b. first_fault ((not c.in_ok-added.added || c.in_ok-repeated.repeated, Twice) ∷ (b, Arity) ∷ (c.is_too_wide-wide.result, TooWide) ∷ []))
    c.is_unlike_main-unlike_main.ensures
    ∙ proc_kind_is w above l old h name ps names n c.in_ok-added.added c.in_ok-repeated.repeated (is_main name) (c.len.result == c.len-2.result && (n == 0)) c.is_too_wide-wide.result
    e once_each c.in_ok-added.ensures.added twice then refl
    (ap₂ (λ x y. (x == y) && (n == 0)) c.len.ensures (c.len-2.ensures ∙ ap length t.globals))
    (c.is_too_wide-wide.ensures ∙ ap₂ (λ x y. nat_lt most_related (x + y)) c.len-3.ensures t.slots) in
    record { kind = sym c.in-Some.is ∙ told; taken = tt }

pub returns : goal.returns
returns c = λ w above l ps t h said e.
    let old = c.args.reading.now in
    let name = c.args.name.now in
    let n = c.args.returns in
    let names = c.add_names.new.table in
    let globals : c.in_ok-names.names ≡ w.globals = c.in_ok-names.ensures ∙ t.globals in
    let once_each : IsOnce w.globals = subst IsOnce t.globals c.stands_once.ensures in
    let same = params_names c.args.params.now ps said in
    let twice : c.in_ok-repeated.repeated ≡ (has_twice ps || has_known w.globals ps) =
    c.in_ok-repeated.ensures.twice ∙ ap₂ (λ known xs. has_twice xs || has_known known xs) globals same in
    let then : names ≡ once (w.globals ++ ps) =
    c.in_ok-repeated.ensures.names ∙ ap₂ (λ known xs. once (known ++ xs)) globals same in
    let told : c.proc_kind.result ≡ kind_below w above l =
    c.proc_kind.ensures
    ∙ ap (λ b. first_fault ((not c.in_ok-added.added || c.in_ok-repeated.repeated, Twice) ∷ (b, Arity) ∷ (c.is_too_wide-wide.result, TooWide) ∷ []))
    c.is_unlike_main-unlike_main.ensures
    ∙ proc_kind_is w above l old h name ps names n c.in_ok-added.added c.in_ok-repeated.repeated (is_main name) (c.len.result == c.len-2.result && (n == 0)) c.is_too_wide-wide.result
    e once_each c.in_ok-added.ensures.added twice then refl
    (ap₂ (λ x y. (x == y) && (n == 0)) c.len.ensures (c.len-2.ensures ∙ ap length t.globals))
    (c.is_too_wide-wide.ensures ∙ ap₂ (λ x y. nat_lt most_related (x + y)) c.len-3.ensures t.slots) in
    let none = none_holds (not c.in_ok-added.added || c.in_ok-repeated.repeated) Twice ((c.is_unlike_main-unlike_main.result, Arity) ∷ (c.is_too_wide-wide.result, TooWide) ∷ []) (sym c.proc_kind.ensures ∙ c.in_default.is) in
    let joined = names_joined w.globals names ps once_each then (sym twice ∙ none_repeated c.in_ok-added.added c.in_ok-repeated.repeated none.0) in
    record {
      kind = sym c.in_default.is ∙ told;
      taken =
          proc_taken w above l old h name ps n c.add.new.self names c.begin.new.self e
          (seen_more old.seen_procs c.add.new.self old.seen_procs name c.in_ok-added.added (λ x. refl) c.in_ok-added.ensures.added c.in_ok-added.ensures.names)
          joined
          (c.in_ok-begin.ensures ∙ ap (λ xs. old.procs ++ proc_with name xs n ∷ []) same);
    }

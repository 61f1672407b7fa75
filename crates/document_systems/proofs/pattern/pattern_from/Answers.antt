use Rattle.std.proofs.Common.{◌≡◌, ◌<◌, length, get_or, sym, subst}
use Rattle.std.specs.Prelude.{None, IsTrue}
use Rattle.config_patterns.specs.Membership.{PatternValue}
use Rattle.config_patterns.specs.Fault.{item_fault}
use Rattle.config_patterns.specs.Validity.{is_set}
use Rattle.document_systems.specs.Systems.{set_of}
use Rattle.document_systems.proofs.ItemLemmas.{next_is_once, next_is_not_refused}
use Rattle.document_systems.proofs.pattern.pattern_from.Goals as goal

pub add_item-requires-clause-once : goal.add_item-requires-clause-once
add_item-requires-clause-once g c =
    let text = c.args.text.now in
    let n = c.args.system.now.symbols in
    let t = c.item-item.result in
    let read = c.as_slice-item-items.ensures in
    let within = subst (λ xs. c.loop-item.item-index < length xs) read c.loop-item-test.true in
    let at = subst (λ xs. t ≡ get_or xs c.loop-item.item-index t) read c.item-item.is in
    let once = next_is_once n c.args.system.now.controls text c.requires c.loop-item.item-index t within at in
    subst (λ (p : PatternValue). IsTrue (is_set (set_of p.symbols t.set))) (sym c.loop-item.invariant) once

pub add_item-requires-clause-accepted : goal.add_item-requires-clause-accepted
add_item-requires-clause-accepted g c =
    let text = c.args.text.now in
    let n = c.args.system.now.symbols in
    let t = c.item-item.result in
    let read = c.as_slice-item-items.ensures in
    let within = subst (λ xs. c.loop-item.item-index < length xs) read c.loop-item-test.true in
    let at = subst (λ xs. t ≡ get_or xs c.loop-item.item-index t) read c.item-item.is in
    let accepted = next_is_not_refused n c.args.system.now.controls text c.requires c.loop-item.item-index t within at in
    subst (λ (p : PatternValue). item_fault p (set_of p.symbols t.set) t.star ≡ None) (sym c.loop-item.invariant) accepted

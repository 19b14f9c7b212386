use Rattle.std.proofs.Common.{ap, ◌∙◌, sym, map, string_bytes, Some}
use Rattle.std.specs.String.{string_cmp}
use Rattle.std.proofs.lemmas.Map.Keys.{sorted_tail}
use Rattle.pe_scene.specs.Sections.{lists, unknown_of}
use Rattle.pe_scene.proofs.Keys.{keys_in-entries, unknown_of-first, unknown_of-listed}
use Rattle.pe_scene.proofs.section.Section.unknown_in.Goals as goal

pub loop-key-init : goal.loop-key-init
loop-key-init c =
    let items = c.into_iter-key-iterator.ensures.into_iter_gives ∙ c.keys-key-items.ensures.rest in
    record {
      decide = ap (λ keys. unknown_of c.args.self (map string_bytes keys)) items ∙ ap (unknown_of c.args.self) (sym (keys_in-entries c.args.table.now.entries));
      ascend = rw items c.keys-key-items.ensures.ordered;
    }

pub returns-then-not-lists : goal.returns-then-not-lists
returns-then-not-lists c =
    let split = c.in-Some.ensures.steps in
    let ascend = rw split at c.loop-key.invariant.ascend in
    let unlisted = ap (lists c.args.self) (sym c.as_str.ensures.value) ∙ sym c.lists.ensures ∙ c.if-not-lists.true in
    ap Some c.as_str-then-not-lists.ensures.value ∙ sym (unknown_of-first c.args.self c.in-Some.key.now _ ascend unlisted)
    ∙ ap (λ keys. unknown_of c.args.self (map string_bytes keys)) (sym split) ∙ c.loop-key.invariant.decide

pub loop-key-preserved : goal.loop-key-preserved
loop-key-preserved c =
    let split = c.in-Some.ensures.steps in
    let listed = ap (lists c.args.self) (sym c.as_str.ensures.value) ∙ sym c.lists.ensures ∙ c.if-not-lists.false in
    record {
      decide = sym (unknown_of-listed c.args.self (string_bytes c.in-Some.key.now) (map string_bytes c.next.new.self) listed)
          ∙ ap (λ keys. unknown_of c.args.self (map string_bytes keys)) (sym split) ∙ c.loop-key.invariant.decide;
      ascend = sorted_tail string_cmp c.in-Some.key.now c.next.new.self (rw split at c.loop-key.invariant.ascend);
    }

use Rattle.std.proofs.Common.{◌≡◌, true, not, Some, option_map, ap, sym, ◌∙◌, arith, below_more}
use Rattle.pe_stream.specs.declared.fault.StreamFault.TheVariants.{State}
use Rattle.pe_stream.specs.Layout.{vertex_bytes, vertex_size}
use Rattle.pe_stream.specs.Faults.{is_saved_state, state_at}
use Rattle.pe_stream.specs.Parts.{IsReadVertex}
use Rattle.pe_stream.proofs.Firsts.{find-none, find-first}
use Rattle.pe_stream.proofs.Pieces.{splits_at, read_one_more, next_state}
use Rattle.pe_stream.proofs.parts.read_vertices.Goals as goal

pub returns-in_default-clause-test : goal.returns-in_default-clause-test
returns-in_default-clause-test c =
    let size = vertex_size c.args.fields in
    let bytes = c.args.bytes.now in
    let i = c.loop-index.index in
    let rest = c.loop-index.rest.now in
    let split = splits_at c.vertex_size-size.result size rest _ _ c.vertex_size-size.ensures c.split_at.ensures.front c.split_at.ensures.back in
    let same = next_state size i bytes rest _ _ (omega arith) split c.loop-index.invariant.read.rest_is in
    let first = find-first (λ k. not (is_saved_state (state_at size bytes k))) 0 c.args.count i (omega arith) (omega arith)
    (λ k above below. ap not (c.loop-index.invariant.states k below)) (ap not (ap is_saved_state (sym same) ∙ sym c.in_default.ensures.variant)) in
    ap (option_map (λ k. State k (state_at size bytes k))) first ∙ ap (λ b. Some (State i b)) (sym same)

pub loop-index-preserved : goal.loop-index-preserved
loop-index-preserved c =
    let count = c.args.fields in
    let size = vertex_size count in
    let bytes = c.args.bytes.now in
    let i = c.loop-index.index in
    let rest = c.loop-index.rest.now in
    let split = splits_at c.vertex_size-size.result size rest _ _ c.vertex_size-size.ensures c.split_at.ensures.front c.split_at.ensures.back in
    let same = next_state size i bytes rest _ _ (omega arith) split c.loop-index.invariant.read.rest_is in
    record {
      read = read_one_more (vertex_bytes count) (IsReadVertex count) size bytes c.loop-index.vertices.items c.push.new.self.items rest _ _ i c.in-Some.vertex
          split c.in_ok-push.ensures.items c.in-Some.ensures.bytes c.in-Some.ensures.vertex c.loop-index.invariant.read;
      states = below_more (λ k. is_saved_state (state_at size bytes k) ≡ true) i c.loop-index.invariant.states (ap is_saved_state (sym same) ∙ sym c.in-Some.ensures.variant);
    }

pub returns-clause-test : goal.returns-clause-test
returns-clause-test c =
    let size = vertex_size c.args.fields in
    let bytes = c.args.bytes.now in
    ap (option_map (λ k. State k (state_at size bytes k))) (find-none (λ k. not (is_saved_state (state_at size bytes k))) 0 c.args.count (λ k above below. ap not (c.loop-index.invariant.states k (omega arith))))

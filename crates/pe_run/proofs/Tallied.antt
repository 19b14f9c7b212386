-- One traversal more, with its tally line.
use Rattle.std.proofs.Common.{ℕ, List, [], subst}
use Rattle.std.proofs.lemmas.List.{append-nil}
use Rattle.pe_base.specs.declared.fields.Fields.{Fields}
use Rattle.pe_base.specs.declared.tally.Tally.{Tally}
use Rattle.pe_base.specs.Lines.{tally_line}
use Rattle.pe_base.specs.Walk.Grids.{Grid}
use Rattle.pe_base.specs.Walk.Traversals.{Traversal}
use Rattle.pe_base.specs.Walk.Walk.{traverse}
use Rattle.pe_stacks.specs.declared.record.Vertex.{Vertex}
use Rattle.pe_stacks.specs.declared.record.CellRec.{CellRec}
use Rattle.pe_stacks.specs.Holdings.{Holdings}
use Rattle.pe_base.specs.Calls.Told.{Told, Adds, FailsToTell}
use Rattle.pe_base.proofs.Calls.Texts.{adds-then, part-then, fails-then}
use Rattle.pe_scene.specs.Said.{Said}
use Rattle.pe_run.specs.declared.traversals.Between.{Between}
use Rattle.pe_run.specs.Tasks.{said_setting}
use Rattle.pe_run.specs.Between.{IsTraversed, FailsAtLine}

module _ (said : Said) (grid : Grid) (made : List Traversal) (old mid new : Told) (vertices : Holdings (Vertex Fields)) (cells : Holdings (CellRec Fields)) (between : Between) (tally : Tally)
    (it : IsTraversed said grid made (λ t. []) old mid vertices cells between tally) where
  abbrev text : List ℕ
  text = (traverse (said_setting said) grid).text

  written : Adds old text mid
  written = subst (λ x. Adds old x mid) (append-nil text) it.told

  -- the line was written
  pub with_line : Adds mid (tally_line tally) new → (t : Tally) × IsTraversed said grid made tally_line old new vertices cells between t
  with_line line = (tally, record { next = it.next; ends = it.ends; told = adds-then old mid new text (tally_line tally) written line; stands = it.stands })

  -- the sink failed at it
  pub fails_at_line : FailsToTell (tally_line tally) mid new → FailsAtLine said grid old new
  fails_at_line line = record {
    next = it.next;
    tally = tally;
    ends = it.ends;
    fails = record { failed = fails-then old mid new text written line.failed; told = part-then old mid new text (tally_line tally) written line.told };
  }

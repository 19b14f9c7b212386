use Rattle.pe_stacks.specs.Sights.{fields_numbers, seen_vertex}
use Rattle.pe_eval.proofs.FullCorners.{seen_there}
use Rattle.pe_eval.proofs.view.View.vertex.Goals as goal

pub returns-in-Vertex-ParentCorner : goal.returns-in-Vertex-ParentCorner
returns-in-Vertex-ParentCorner c = rw (c.in-Vertex-ParentCorner.is-0, c.in-Vertex-ParentCorner.is-1) (seen_there (seen_vertex fields_numbers.vertex) _ c.in-Vertex-ParentCorner.parents.now _ _ (rw c.in-Vertex-ParentCorner.is-0 at c.requires.ready).2 c.at.ensures)

pub returns-in-Cell-Corner : goal.returns-in-Cell-Corner
returns-in-Cell-Corner c = rw (c.in-Cell-Corner.is-0, c.in-Cell-Corner.is-1) (seen_there (seen_vertex fields_numbers.vertex) _ c.in-Cell-Corner.corners.now _ _ (rw c.in-Cell-Corner.is-0 at c.requires.ready).3 c.at-in-Cell-Corner.ensures)

pub returns-in-Cell-ParentCorner : goal.returns-in-Cell-ParentCorner
returns-in-Cell-ParentCorner c = rw (c.in-Cell-ParentCorner.is-0, c.in-Cell-ParentCorner.is-1) (seen_there (seen_vertex fields_numbers.vertex) _ c.in-Cell-ParentCorner.parents.now _ _ (rw c.in-Cell-ParentCorner.is-0 at c.requires.ready).2 c.at-in-Cell-ParentCorner.ensures)

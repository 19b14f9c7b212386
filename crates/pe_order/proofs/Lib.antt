-- The laws of places, from the lemmas of `pe_base`, in reading order.

-- tests, lists and powers
pub mod Tests
-- # The laws
-- cells that are not walked
pub mod Unwalked
-- the cells of the tree are the places of cells
pub mod Trees
-- faces to earlier cells, to later ones, and on the boundary of the root
pub mod Outside
-- the steps around a vertex, and the corners of the cells on both sides of each
pub mod Steps
-- what is stored was loaded
pub mod Stores
-- each law
pub mod Derived
-- # The walk over places on stacks
-- its steps, the walk of a cell, traversals
pub mod Tokens
-- what makes a walk: carriers
pub mod Outlooks
-- what is foreseen of a traversal, and what is stored
pub mod Forecasts
-- streams in the order of grids
pub mod StreamOrders
-- how many cells a grid has
pub mod GridCells

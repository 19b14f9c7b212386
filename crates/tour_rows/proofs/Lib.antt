-- The tour that counts.

-- it has levels enough
mod Fitting
-- levels of children
mod ChildLevels
-- two of them whose steps match
mod CountAlike

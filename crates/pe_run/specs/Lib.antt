-- The run of the program, in reading order.

-- the lines and the numbers with which a run ends
pub mod Endings
-- what a run moves on stacks
pub mod Traffic
-- what a job reads from the shelf, stage after stage
pub mod Reads
-- what each job does, as data
pub mod Tasks
-- the run of a job, and the clauses of the top call
pub mod Run
-- what stands between two traversals of a run
pub mod Between
-- what a stage of the run carries
pub mod Stages

-- What the exported operations promise together: the check's answer and demand 3 on the model, the calls, demand 3 on the code, the lengths that
-- calls hand back, the counts of runs, and the customer's cases.
pub mod Scanned
pub mod Partner
pub mod Checked
pub mod File
pub mod Safe
pub mod CheckCases
pub mod Started
pub mod Calls
pub mod Kept
pub mod Demand3
pub mod Coincide
pub mod OneTable
pub mod Lengths
pub mod CallModes
pub mod Missing
pub mod Annotated
pub mod Busy
pub mod Roots

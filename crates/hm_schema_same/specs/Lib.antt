pub mod JointGraphs

mod JointGraphs
mod JointEdges
mod JointSameness

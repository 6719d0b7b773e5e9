mod HeldLaws
mod WalkLaws
mod KeyLaws
mod MetLaws
mod PutLaws

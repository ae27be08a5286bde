-- What a handler of lines changes.

-- The handler, the output and what else it is given, at one moment.
pub record LineState (H K X : Type 0) : Type 0 where
  pub handler : H
  pub out : K
  pub rest : X

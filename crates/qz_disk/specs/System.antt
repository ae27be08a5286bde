-- What a file of the system answers after a sync that failed.
use Rattle.std.specs.Prelude.{◌≡◌, Bool, true, IsErr}
use Rattle.std.specs.declared.result.Result.{Result}

-- a call that fails where this holds, and leaves it as it was
pub record IsRefusedIf {T E : Type 0} (old new : Bool) (result : Result T E) : Type 0 where
  pub fails : old ≡ true → IsErr result
  pub same : new ≡ old

-- where this holds, the call fails, and it holds from then on
pub record KeepsFailing {T E : Type 0} (old new : Bool) (result : Result T E) : Type 0 where
  pub fails : old ≡ true → IsErr result
  pub stays : old ≡ true → new ≡ true

-- An input that is read to its end, unless it has more bytes than a limit.
use Rattle.std.specs.Prelude.{◌≡◌, ◌+◌, ◌<◌, ◌≤◌, ℕ, List, length, Option, Result, Ok, Err}
use Rattle.std.specs.Io.KnownBytes.{Consumes, IsAtEnd}
use Rattle.qz_io.specs.Handlers.{IfKnown}
use Rattle.qz_input.specs.declared.whole.TheConstants.{BLOCK}
use Rattle.qz_input.specs.declared.whole.ReadWholeError.{ReadWholeError}
use Rattle.qz_input.specs.declared.whole.ReadWholeError.TheVariants.{Failed, TooLong, NoMemory}

-- Where the input tells its bytes, these are all that it had left, and they are no more than the limit.
pub record GetsAll (limit : ℕ) (left left_now : Option (List ℕ)) (bytes : List ℕ) : Type 0 where
  pub taken : Consumes left left_now bytes
  pub ended : IsAtEnd left_now
  pub all : IfKnown left (λ told. bytes ≡ told)
  pub within : length bytes ≤ limit

-- Bytes from the front of the input were taken: at most the limit and one block.
pub record TakesFront (limit : ℕ) (left left_now : Option (List ℕ)) : Type 0 where
  pub got : List ℕ
  pub taken : Consumes left left_now got
  pub within : length got ≤ limit + BLOCK

-- Where the input tells its bytes, it had more than the limit.
pub record HasMore (limit : ℕ) (left left_now : Option (List ℕ)) : Type 0 where
  pub front : TakesFront limit left left_now
  pub more : IfKnown left (λ told. limit < length told)

-- what each answer says of the input before and after
abbrev pub ReadsWhole : Result (List ℕ) ReadWholeError → ℕ → Option (List ℕ) → Option (List ℕ) → Type 0
ReadsWhole (Ok bytes) limit left left_now = GetsAll limit left left_now bytes
ReadsWhole (Err TooLong) limit left left_now = HasMore limit left left_now
ReadsWhole (Err Failed) limit left left_now = TakesFront limit left left_now
ReadsWhole (Err NoMemory) limit left left_now = TakesFront limit left left_now

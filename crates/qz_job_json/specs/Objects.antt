-- The keys and the jobs in lines. Members are read in this order up to the first fault.
use Rattle.std.specs.Prelude.{ℕ, List, [], length, Bool, nat_le, if◌then◌else◌, Option, Result, Ok, Err, codes}
use Rattle.serde_json.specs.Data.{Data}
use Rattle.serde_json.specs.Find.{get, as_str}
use Rattle.qz_types.specs.declared.keys.Key.{Key}
use Rattle.qz_types.specs.declared.limits.TheConstants.{PAYLOAD_LIMIT}
use Rattle.qz_types.specs.Rows.{JobData}
use Rattle.qz_job_json.specs.declared.faults.LineFault.{LineFault}
use Rattle.qz_job_json.specs.declared.faults.LineFault.TheVariants.{Shape}
use Rattle.qz_job_json.specs.declared.forms.Form.TheVariants.{Job}
use Rattle.qz_job_json.specs.Faults.{◌>>=◌, or_shape}
use Rattle.qz_job_json.specs.Forms.{members_of}
use Rattle.qz_job_json.specs.Members.{has_only, kept, both, said_or, name_at, group_at, flag_at}

abbrev pub make_key : List ℕ → List ℕ → Key
make_key group name = record { group = group; name = name }

-- the key of the members under these names
unfoldable pub key_at : List ℕ → List ℕ → Data → Option Key
key_at group name d = both make_key (group_at group d) (name_at name d)

-- what the executing class is given
abbrev pub is_payload : List ℕ → Bool
is_payload text = nat_le (length text) PAYLOAD_LIMIT

abbrev pub payload_of : Data → Option (List ℕ)
payload_of d = kept is_payload (as_str d)

-- empty only where there is no such member
abbrev pub payload_at : Data → Option (List ℕ)
payload_at d = said_or [] payload_of (get (codes "data") d)

unfoldable pub job_by_members : Data → Result JobData LineFault
job_by_members d =
    or_shape (key_at (codes "group") (codes "name") d) >>= λ key.
    or_shape (name_at (codes "class") d) >>= λ class.
    or_shape (flag_at (codes "durable") d) >>= λ durable.
    or_shape (flag_at (codes "no_concurrent") d) >>= λ no_concurrent.
    or_shape (flag_at (codes "requests_recovery") d) >>= λ requests_recovery.
    or_shape (payload_at d) >>= λ payload.
    Ok (record {
      key = key;
      class = class;
      durable = durable;
      no_concurrent = no_concurrent;
      requests_recovery = requests_recovery;
      payload = payload;
    })

-- a job, which has only members of one
abbrev pub job_of : Data → Result JobData LineFault
job_of d = if has_only (members_of Job) d then job_by_members d else Err Shape

abbrev pub trigger_key : Data → Option Key
trigger_key d = key_at (codes "group") (codes "name") d

abbrev pub job_key : Data → Option Key
job_key d = key_at (codes "job_group") (codes "job") d

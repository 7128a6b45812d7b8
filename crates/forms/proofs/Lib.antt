pub mod FormKinds

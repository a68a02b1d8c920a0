pub mod Members
pub mod Takes
pub mod Goes
pub mod Accepts
pub mod Clauses
pub mod Greatest
pub mod Places
pub mod Laws
